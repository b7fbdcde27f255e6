-- The records that a tree file opens, in reading order, up to the first fault of form, and no limit asked: each with its place, how deep it stands and
-- how many `SF` records it stands in, itself among them. A record's own fields come before its children, so what is still to be read is a list.
use mathlib.Core.Bool.{Bool, true, false}
use mathlib.Core.Option.{Option, none, some}
use mathlib.Core.List.{List, ◌∷◌, ◌++◌, map, []}
use Prim.Native.Nat.{ℕ, zero, suc, ◌/◌, ◌%◌}
use lib.ListN.{length, replicate}
use lib.Dec.{ltb, leb, eqb}
use Rattle.std.specs.Prelude.{if◌then◌else◌}
use Rattle.rules.specs.Limits.{max_names}
use Rattle.rules.specs.declared.Refusal.{Refusal}
use Rattle.rules.specs.declared.Refusal.TheVariants.{TreeForm, TreeTooDeep, TooManyOpen}
use Rattle.rules.specs.Reader.{Read, Reader, got, bad, ◌>>=◌, return, need, one_of, u8, u16, mark_is, span, many}
use Rattle.rules.specs.TreeFile as t

-- what may stand where a record is to be read
pub data Child : Type 0 where
  expr superclass stmt method : Child

-- what does stand there: a superclass is an `EV`, a method an `SF`
pub data Mark : Type 0 where
  an_expr : t.ExprMark → Mark
  a_stmt : t.StmtMark → Mark

-- a record to be read, how deep it will stand, and how many `SF` records are around it
pub record Task : Type 0 where
  pub child : Child
  pub depth : ℕ
  pub around : ℕ

pub record Opened : Type 0 where
  pub place : ℕ
  pub depth : ℕ
  pub nesting : ℕ

abbrev pub task : (depth around : ℕ) → Child → Task
task depth around child = record { child = child; depth = depth; around = around }

-- the `SF` records that a record stands in, itself among them
abbrev pub nesting : Mark → (around : ℕ) → ℕ
nesting (an_expr k) around = around
nesting (a_stmt t.SB) around = around
nesting (a_stmt t.SC) around = around
nesting (a_stmt t.SE) around = around
nesting (a_stmt t.SF) around = suc around
nesting (a_stmt t.SI) around = around
nesting (a_stmt t.SO) around = around
nesting (a_stmt t.SP) around = around
nesting (a_stmt t.SR) around = around
nesting (a_stmt t.SV) around = around
nesting (a_stmt t.SW) around = around

abbrev pub if_got : {A : Type 0} → Read A → (A → ℕ → List Opened) → List Opened
if_got (got a next) f = f a next
if_got (bad r) f = []

abbrev pub optional : Bool → Child → List Child
optional false child = []
optional true child = child ∷ []

module _ (tree : List ℕ) where
  module _ (names : ℕ) where
    abbrev pub read_mark : Child → (fault : Refusal) → Reader Mark
    read_mark expr fault = t.expr_mark tree names fault >>= λ k. return (an_expr k)
    read_mark superclass fault = mark_is tree fault 0x4556 >>= λ _. return (an_expr t.EV)
    read_mark stmt fault = t.stmt_mark tree names fault >>= λ k. return (a_stmt k)
    read_mark method fault = mark_is tree fault 0x5346 >>= λ _. return (a_stmt t.SF)

    -- ## What follows the span: the fields, and which children they announce

    abbrev pub expr_children : (fault : Refusal) → t.ExprMark → Reader (List Child)
    expr_children fault t.EA = t.name tree names fault >>= λ _. return (expr ∷ [])
    expr_children fault t.EC = u16 tree fault >>= λ count. return (expr ∷ replicate count expr)
    expr_children fault t.EG = t.name tree names fault >>= λ _. return (expr ∷ [])
    expr_children fault t.EI = u8 tree fault >>= one_of fault t.infix_ops >>= λ _. return (expr ∷ expr ∷ [])
    expr_children fault t.EL = u8 tree fault >>= one_of fault t.literal_kinds >>= λ k. t.literal_of tree names fault k >>= λ _. return []
    expr_children fault t.EP = u8 tree fault >>= one_of fault t.prefix_ops >>= λ _. return (expr ∷ [])
    expr_children fault t.ES = t.name tree names fault >>= λ _. return (expr ∷ expr ∷ [])
    expr_children fault t.EU = t.name tree names fault >>= λ _. return []
    expr_children fault t.EV = t.name tree names fault >>= λ _. return []

    abbrev pub fun_children : (fault : Refusal) → Reader (List Child)
    fun_children fault =
        t.name tree names fault >>= λ _. u16 tree fault >>= λ arity. many arity (t.name tree names fault) >>= λ _.
        u16 tree fault >>= λ count. return (replicate count stmt)

    abbrev pub stmt_children : (fault : Refusal) → t.StmtMark → Reader (List Child)
    stmt_children fault t.SB = u16 tree fault >>= λ count. return (replicate count stmt)
    stmt_children fault t.SC =
        t.name tree names fault >>= λ _. t.flag tree fault >>= λ has_super. u16 tree fault >>= λ count.
        return (optional has_super superclass ++ replicate count method)
    stmt_children fault t.SE = return (expr ∷ [])
    stmt_children fault t.SF = fun_children fault
    stmt_children fault t.SI = t.flag tree fault >>= λ has-else. return (expr ∷ stmt ∷ optional has-else stmt)
    stmt_children fault t.SO =
        u8 tree fault >>= λ parts. need (ltb parts 8) fault >>= λ _.
        return (optional (eqb (parts % 2) 1) stmt ++ (optional (eqb (parts / 2 % 2) 1) expr ++ (stmt ∷ optional (eqb (parts / 4) 1) expr)))
    stmt_children fault t.SP = return (expr ∷ [])
    stmt_children fault t.SR = t.flag tree fault >>= λ has_value. return (optional has_value expr)
    stmt_children fault t.SV = t.name tree names fault >>= λ _. t.flag tree fault >>= λ has_value. return (optional has_value expr)
    stmt_children fault t.SW = return (expr ∷ stmt ∷ [])

    abbrev pub fields : Mark → (fault : Refusal) → Reader (List Child)
    fields (an_expr k) fault = span tree fault >>= λ _. expr_children fault k
    fields (a_stmt k) fault = span tree fault >>= λ _. stmt_children fault k

    -- `fuel` is a bound on how many records there are: each takes bytes, so as many as there are bytes will do
    abbrev pub opened_from : (fuel : ℕ) → List Task → (at : ℕ) → List Opened
    opened_from zero tasks at = []
    opened_from (suc fuel) [] at = []
    opened_from (suc fuel) (next ∷ tasks) at =
        if_got (read_mark next.child (TreeForm at) at) (λ m i.
        record { place = at; depth = next.depth; nesting = nesting m next.around } ∷
        if_got (fields m (TreeForm at) i) (λ children j.
        opened_from fuel (map (task (suc next.depth) (nesting m next.around)) children ++ tasks) j))

  -- the header and the names: how many names, and how many statements
  abbrev pub read_header : Reader (ℕ × ℕ)
  read_header =
      mark_is tree (TreeForm 0) 0x5452 >>= λ _. u16 tree (TreeForm 0) >>= λ names. u16 tree (TreeForm 0) >>= λ count.
      need (leb names max_names) (TreeForm 0) >>= λ _. t.read_names tree names none >>= λ _. return (names, count)

  abbrev pub opened : List Opened
  opened = if_got (read_header 0) (λ h i. opened_from h.0 (length tree) (map (task 1 0) (replicate h.1 stmt)) i)

-- ## The first record that passes a limit

module _ (depth funs : ℕ) where
  abbrev pub passes : Opened → Bool
  passes x = if leb x.depth depth then ltb funs x.nesting else true

  abbrev pub first_passing : List Opened → Option Opened
  first_passing [] = none
  first_passing (x ∷ xs) = if passes x then some x else first_passing xs

  -- 4 before 5
  abbrev pub refused_for : Opened → Refusal
  refused_for x = if leb x.depth depth then TooManyOpen x.place else TreeTooDeep x.place
