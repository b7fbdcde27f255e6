-- Which function an error is in (request M-105): "the name number of the innermost open function and how many functions are open around it (0 in the script,
-- whose name is 3). All of 10 to 30 fill them; the others leave 0." Of whatever is compiled: an expression's error is in the function in which it is
-- compiled; a statement's is in that one, or in one that was opened in it; a function's is in it or in one that was opened in it, or, where it comes before the
-- function is begun or after it is ended, in the one around it. So the outermost of the open functions is the script. For all limits, trees and lent sizes.
use mathlib.Core.Path.{◌≡◌, refl, sym, ap, subst, subst⁻¹, ◌∙◌}
use mathlib.Core.Logic.{◌↔◌, ◌≢◌, ◌⊎◌, inl, inr}
use mathlib.Core.Bool.{Bool, true, false}
use mathlib.Core.Option.{Option, none, some}
use mathlib.Core.List.{List, ◌∷◌, ◌++◌, []}
use Prim.Native.Nat.{ℕ, suc, ◌+◌, ◌-◌, ◌≤◌, ◌<◌}
use native.Mathlib.Omega.{arith}
use lib.ListN.{length, length-append, drop}
use lib.Dec.{ltb, leb, eqb, leb→le, nleb→lt}
use borrow.Author.Tests.{le-leb}
use Rattle.std.specs.Prelude.{if◌then◌else◌}
use Rattle.rules.specs.Limits.{Limits}
use Rattle.rules.specs.declared.Span.{Span}
use Rattle.rules.specs.declared.Answer.{Answer}
use Rattle.rules.specs.declared.Refusal.{Refusal}
use Rattle.rules.specs.declared.Refusal.TheVariants.{WorkShort, TreeTooLong, TooManyParams, OutFull, ImageRefused, NoSuchFunction, NoSuchByte}
use Rattle.rules.specs.declared.Stopped.{Stopped}
use Rattle.rules.specs.Answer.{refusal, accepted, at_span, in_function, refusal_in}
use Rattle.rules.specs.Tree.{Expr, Stmts, Fun, fun, script_name}
use Rattle.rules.specs.Reader.{Read, got, bad}
use Rattle.rules.specs.Chunk.{CS, Run, ObjectFunction}
use Rattle.rules.specs.Compiler as c
use Rattle.rules.specs.Compiler.{Compiler, CompilerCtx, Compile, Outcome, ok, err, go_on, Upvalue, FunctionType, Script}
use Rattle.rules.specs.Image.{image_bytes}
use Rattle.rules.specs.ImageFile.{read_function}
use Rattle.rules.specs.Checker as checker
use Rattle.rules.specs.Checker.{image_of, check, code_answer, code_part, directory_of, code_through, span_of}
use Rattle.rules.specs.Touch as touching
use Rattle.rules.specs.Touch.{Standing, touch}
use Rattle.rules.specs.Entry as entry
use Rattle.rules.specs.Entry.{Lent, Compiled, functions_are, refused, code_limit, compile_tree, compile_within}
use Rattle.rules.proofs.Slips.{too_many_params}
use Rattle.rules_laws.proofs.Facts.{All, Bytes}
use Rattle.rules_laws.proofs.Checks.{image_for, room}
use Rattle.rules_laws.proofs.Refusals.{number_of, readers_number, rusts_number, refusal_outside}
use Rattle.rules_laws.proofs.Trees.{Leaf, anything, OfStmts, expr_any, stmts_any, fun_any}
use Rattle.rules_laws.proofs.Steps as steps
use Rattle.rules_laws.proofs.Steps.{Laws, Inner}
use Rattle.rules_laws.proofs.TreeBytes.{fitting, tree_fits}
use Rattle.rules_laws.proofs.Room.{Enough, has_table, one_in_both}
use Rattle.rules_laws.proofs.Exactly.{WasRead, Way, way, work_short, too_long, not_read, against_a_rule, code_full, out_full, all_fits}
use Rattle.rules_laws.proofs.UpTo.{function_up_to_end}
use Rattle.rules_laws.proofs.Impossible.{impossible}
use Rattle.rules_laws.proofs.OpenFunctions as running
use Rattle.rules_laws.proofs.OpenFunctions.{Who, who, whos, open_functions, InnerOne, Nests, At, Stop, Ends, Goes, R, laws, flat, none_opened, any_opened, few_opened}

-- ## Of whatever is compiled, under whatever code limit

-- the error is in the function that is innermost in this state
abbrev pub Own : Compiler → Stopped → Type 0
Own s x = x ≡ c.stopped x.what s

-- in the innermost of these open functions, or in one that was opened in it
pub record Inside (base : List Who) (x : Stopped) : Type 0 where
  pub state : Compiler
  pub is : Own state x
  pub opened : List Who
  pub inner : All InnerOne opened
  pub are : open_functions state ≡ opened ++ base

-- the same functions are open, so the same is told
told : Refusal → List Who → Stopped
told r [] = record { what = r; function = 0; around = 0 }
told r (w ∷ ws) = record { what = r; function = w.0; around = length ws }

whos_length : (xs : List CompilerCtx) → length (whos xs) ≡ length xs
whos_length [] = refl
whos_length (x ∷ xs) = ap suc (whos_length xs)

stopped_told : (r : Refusal) (s : Compiler) → told r (open_functions s) ≡ c.stopped r s
unfolding told
stopped_told r s = let e = whos_length s.parents in cc

pub own_alike : (s t : Compiler) (x : Stopped) → open_functions t ≡ open_functions s → Own t x → Own s x
own_alike s t x e h = h ∙ sym (stopped_told x.what t) ∙ ap (told x.what) e ∙ stopped_told x.what s

own_so : (s : Compiler) (x : Stopped) → Stop flat none_opened (who s.ctx) (whos s.parents) x → Own s x
own_so s x p = by_opened p.at.opened p.at.are p.at.deep
  where
    by_opened : (os : List Who) → open_functions p.state ≡ os ++ open_functions s → length os ≡ 0 → Own s x
    by_opened [] e d = own_alike s p.state x e p.is
    by_opened (o ∷ os) e d = absurd (omega (arith, d))

inside_so : {l : Leaf} (nests : Nests l) (b : Who) (bs : List Who) (x : Stopped) → Stop l nests b bs x → Inside (b ∷ bs) x
inside_so nests b bs x p = record { state = p.state; is = p.is; opened = p.at.opened; inner = p.at.inner; are = p.at.are }

-- at the level at which it began, no function is left open
none_left : (b : Who) (bs : List Who) (t : Compiler) → At anything any_opened b bs 0 t → open_functions t ≡ b ∷ bs
none_left b bs t j = by_opened j.opened j.deep j.are
  where
    by_opened : (os : List Who) → length os ≡ 0 → open_functions t ≡ os ++ (b ∷ bs) → open_functions t ≡ b ∷ bs
    by_opened [] d e = e
    by_opened (o ∷ os) d e = absurd (omega (arith, d))

module _ (limit : ℕ) (s : Compiler) where
  abbrev b : Who
  b = who s.ctx

  abbrev bs : List Who
  bs = whos s.parents

  -- what opens no function
  module _ (x : Stopped) where
    own_of : (m : Compile (Unit {0})) → Goes flat none_opened b bs tt tt m → m s ≡ err x → Own s x
    own_of m h d =
        own_so s x
        (subst (λ (o : Outcome (Unit {0})). Ends flat none_opened b bs tt o) d (h.run s (record { opened = []; inner = tt; are = refl; deep = refl })))

    -- an expression's error is in the function in which it is compiled
    pub expr_own : (e : Expr) → c.compile_expr limit e s ≡ err x → Own s x
    expr_own e d =
        own_of (c.compile_expr limit e)
        (steps.compile_expr flat (R flat none_opened b bs limit) (laws flat none_opened b bs limit) e (expr_any (Unit {0}) (λ _ _. ⊥) e)) d

    -- so is that of a name that is defined: a function's or a class's own
    pub name_own : (name : ℕ) (span : Span) → c.define_name limit name span s ≡ err x → Own s x
    name_own name span d =
        own_of (c.define_name limit name span) (steps.define_name flat (R flat none_opened b bs limit) (laws flat none_opened b bs limit) name span tt tt) d

    -- and that of METHOD, and of every other instruction with a name
    pub text_own : (opcode name : ℕ) (span : Span) → c.emit_op_constant limit opcode (CS name) span s ≡ err x → Own s x
    text_own opcode name span d =
        own_of (c.emit_op_constant limit opcode (CS name) span)
        (steps.emit_op_constant flat (R flat none_opened b bs limit) (laws flat none_opened b bs limit) opcode (CS name) span tt tt) d

  stmts_end : (ts : Stmts) → Ends anything any_opened b bs 0 (c.compile_stmts limit ts s)
  stmts_end ts =
      (steps.compile_stmts anything (R anything any_opened b bs limit) (laws anything any_opened b bs limit) ts 0 (stmts_any ts 0)).run s
      (record { opened = []; inner = tt; are = refl; deep = refl })

  -- a statement's is in that one, or in one that was opened in it
  pub stmts_inside : (ts : Stmts) (x : Stopped) → c.compile_stmts limit ts s ≡ err x → Inside (open_functions s) x
  stmts_inside ts x d = inside_so any_opened b bs x (subst (λ (o : Outcome (Unit {0})). Ends anything any_opened b bs 0 o) d (stmts_end ts))

  -- and where it has none, the same functions are open behind it
  pub stmts_leave : (ts : Stmts) (t : Compiler) → c.compile_stmts limit ts s ≡ ok tt t → open_functions t ≡ open_functions s
  stmts_leave ts t d = none_left b bs t (subst (λ (o : Outcome (Unit {0})). Ends anything any_opened b bs 0 o) d (stmts_end ts))

  pub function_leaves : (f : Fun) (type : FunctionType) (span : Span) (t : Compiler) → Inner type → c.compile_function limit f type span s ≡ ok tt t →
      open_functions t ≡ open_functions s
  function_leaves f type span t inner d =
      none_left b bs t
      (subst (λ (o : Outcome (Unit {0})). Ends anything any_opened b bs 0 o) d
      ((steps.compile_function anything (R anything any_opened b bs limit) (laws anything any_opened b bs limit) f 1 0 type span inner (fun_any f 1) refl tt
      ).run s (record { opened = []; inner = tt; are = refl; deep = refl })))

module _ (limit : ℕ) (s : Compiler) (x : Stopped) (name : ℕ) (type : FunctionType) (params : List ℕ) (body : Stmts) (span : Span) where
  abbrev InFunction : Type 0
  InFunction = Inside ((name, type) ∷ open_functions s) x

  abbrev Does : {A : Type 0} → Compile A → Type 0
  Does m = Goes anything any_opened (name, type) (open_functions s) 0 0 m

  infixl 10 ◌>>◌
  ◌>>◌ : {A B : Type 0} {m : Compile A} {p : Compile B} → Does m → Does p → Does (c.◌>>◌ m p)
  hm >> hp = running.◌>>◌ anything any_opened (name, type) (open_functions s) hm hp

  -- a function from where it is begun to where it is ended
  abbrev between : Compile (Unit {0})
  between =
      c.◌>>◌ (c.declare_local (c.slot_zero type name) span)
      (c.◌>>◌ c.define_local (c.◌>>◌ (c.declare_params params span) (c.◌>>◌ (c.compile_stmts limit body) (c.implicit_return limit))))

  abbrev begun : Compiler
  begun = c.with_ctxs s (c.new_ctx name (length params) type (s.ctx.scope_depth + 1)) (s.ctx ∷ s.parents)

  ends_between : Ends anything any_opened (name, type) (open_functions s) 0 (between begun)
  ends_between = goes.run begun (record { opened = []; inner = tt; are = refl; deep = refl })
    where
      r : (A : Type 0) → (g h : ℕ) → (code image : ℕ) → (ℕ → Compile A) → Type 0
      r = R anything any_opened (name, type) (open_functions s) limit

      small : Laws anything r
      small = laws anything any_opened (name, type) (open_functions s) limit

      goes : Does between
      goes = do
        small.declare_local _ _
        small.define_local
        steps.declare_params anything r small params span
        steps.compile_stmts anything r small body 0 (stmts_any body 0)
        steps.implicit_return anything r small

  -- a function's error is in it or in one that was opened in it, from where it is begun to where it is ended
  pub before_end : length params ≤ 255 → function_up_to_end limit type name params body span s ≡ err x → InFunction
  unfolding function_up_to_end c.◌>>◌ c.◌>>=◌ go_on c.need c.the c.begin_ctx
  before_end few d =
      inside_so any_opened (name, type) (open_functions s) x
      (subst (λ (o : Outcome (Unit {0})). Ends anything any_opened (name, type) (open_functions s) 0 o) (rw (le-leb (length params) 255 few) at d) ends_between)

  open_at_end : (t : Compiler) → function_up_to_end limit type name params body span s ≡ ok tt t → open_functions t ≡ (name, type) ∷ open_functions s
  unfolding function_up_to_end c.◌>>◌ c.◌>>=◌ go_on c.need c.the c.begin_ctx
  open_at_end t d = by_test (leb (length params) 255) refl
    where
      by_test : (b : Bool) → leb (length params) 255 ≡ b → open_functions t ≡ (name, type) ∷ open_functions s
      by_test true e =
          none_left (name, type) (open_functions s) t
          (subst (λ (o : Outcome (Unit {0})). Ends anything any_opened (name, type) (open_functions s) 0 o) (rw e at d) ends_between)
      by_test false e = let d' = rw e at d in let z : ◌≡◌ {A = ℕ} 0 1 = cc in absurd (omega arith)

  -- after that it is in the one around it: those of its closure
  pub after_end : (t : Compiler) → function_up_to_end limit type name params body span s ≡ ok tt t → c.end_function limit span t ≡ err x → Own s x
  unfolding c.end_function c.end_ctx c.◌>>=◌ go_on c.the c.back_to
  after_end t e d = by_parents t.parents (open_at_end t e) d
    where
      by_parents : (ps : List CompilerCtx) → who t.ctx ∷ whos ps ≡ (name, type) ∷ open_functions s →
          go_on (c.back_to ps t) (λ (p : ℕ × List Upvalue). c.emit_closure limit p.0 p.1 span) ≡ err x → Own s x
      by_parents [] e d = absurd (omega (arith, ap length e))
      by_parents (p ∷ ps) e d =
          own_so s x
          (subst (λ (o : Outcome (Unit {0})). Ends flat none_opened (who s.ctx) (whos s.parents) tt o) d
          ((running.emit_closure flat none_opened (who s.ctx) (whos s.parents) limit _ _ span).run _
          (record { opened = []; inner = tt; are = ap (λ (ws : List Who). drop 1 ws) e; deep = refl })))

  -- and so is 17, before it: Slips `too_many_params`
  pub function_inside : c.compile_function limit (fun name params body) type span s ≡ err x → Own s x ⊎ InFunction
  unfolding c.compile_stmt c.◌>>◌ go_on
  function_inside d = by_test (leb (length params) 255) refl
    where
      by_outcome : length params ≤ 255 → (o : Outcome (Unit {0})) → function_up_to_end limit type name params body span s ≡ o →
          go_on o (λ _. c.end_function limit span) ≡ err x → Own s x ⊎ InFunction
      by_outcome few (ok a t) e d = inl (after_end t e d)
      by_outcome few (err y) e d = let z : y ≡ x = cc in inr (before_end few (e ∙ ap err z))

      by_test : (b : Bool) → leb (length params) 255 ≡ b → Own s x ⊎ InFunction
      by_test true e =
          by_outcome (leb→le (length params) 255 (rw e tt)) (function_up_to_end limit type name params body span s) refl
          (sym ((impossible limit).function_is type name params body span s) ∙ d)
      by_test false e =
          let many = too_many_params limit type name params (c.compile_stmts limit body) span s (omega (arith, nleb→lt (length params) 255 (rw e tt))) in
          let z : x ≡ c.stopped (TooManyParams span) s = cc in
          inl (subst⁻¹ (λ (y : Stopped). Own s y) z refl)

-- ## What that says of the two fields

-- no fewer functions are open around it than around the innermost of these
pub inside_around : {w : Who} {ws : List Who} {x : Stopped} → Inside (w ∷ ws) x → length ws ≤ x.around
inside_around {w} {ws} {x} i =
    omega (
      arith,
      ap (λ (x : Stopped). x.around) i.is,
      whos_length i.state.parents,
      ap length i.are,
      length-append i.opened (w ∷ ws),
    )

-- and where there are as many, it is the one
pub inside_own : {w : Who} {ws : List Who} {x : Stopped} (i : Inside (w ∷ ws) x) → x.around ≡ length ws →
    (x.function ≡ w.0) × (i.state.ctx.type ≡ w.1)
inside_own {w} {ws} {x} i e = by_opened i.opened i.are
  where
    by_opened : (os : List Who) → open_functions i.state ≡ os ++ (w ∷ ws) → (x.function ≡ w.0) × (i.state.ctx.type ≡ w.1)
    by_opened [] are =
        let z : who i.state.ctx ≡ w = cc in
        (ap (λ (x : Stopped). x.function) i.is ∙ ap (λ (w : Who). w.0) z, ap (λ (w : Who). w.1) z)
    by_opened (o ∷ os) are =
        absurd (omega (
          arith,
          ap (λ (x : Stopped). x.around) i.is,
          whos_length i.state.parents,
          ap length are,
          length-append os (w ∷ ws),
        ))

-- ## The compiler

-- the script is the outermost of the open functions, and no other one has its type
abbrev pub InScript : Stopped → Type 0
InScript x = Inside ((script_name, Script) ∷ []) x

-- the error is in the script's own code exactly when no function is open around it, and then its name is 3
module _ {x : Stopped} (i : InScript x) where
  pub script_exactly : (x.around ≡ 0) ↔ (i.state.ctx.type ≡ Script)
  script_exactly = (λ e. (inside_own i e).1, λ e. by_opened i.opened i.inner i.are e)
    where
      by_opened : (os : List Who) → All InnerOne os → open_functions i.state ≡ os ++ ((script_name, Script) ∷ []) → i.state.ctx.type ≡ Script →
          x.around ≡ 0
      by_opened [] h are e = omega (arith, ap (λ (x : Stopped). x.around) i.is, whos_length i.state.parents, ap length are)
      by_opened (o ∷ os) h are e =
          let z : who i.state.ctx ≡ o = cc in
          absurd (subst Inner (sym (ap (λ (w : Who). w.1) z) ∙ e) h.0)

  pub script_named : x.around ≡ 0 → x.function ≡ script_name
  script_named e = (inside_own i e).0

module _ (limit : ℕ) (stmts : Stmts) (x : Stopped) (refused : c.compile_functions limit stmts ≡ err x) where
  script_refuses : c.compile_script limit stmts c.new ≡ err x
  unfolding c.compile_functions c.◌>>◌ c.the go_on
  script_refuses = by_outcome (c.compile_script limit stmts c.new) refused
    where
      by_outcome : (o : Outcome (Unit {0})) → go_on o (λ _. c.the (λ (s : Compiler). s.functions ++ (c.finish s.ctx ∷ []))) ≡ err x → o ≡ err x
      by_outcome (ok a s) e = let z : ◌≡◌ {A = ℕ} 0 1 = cc in absurd (omega arith)
      by_outcome (err y) e = let z : y ≡ x = cc in ap err z

  stop_of : (l : Leaf) (nests : Nests l) (g : l.level) → OfStmts l stmts g → nests.deep g 0 → Stop l nests (script_name, Script) [] x
  stop_of l nests g o d =
      subst (λ (o : Outcome (Unit {0})). Ends l nests (script_name, Script) [] g o) script_refuses
      ((steps.compile_script l (R l nests (script_name, Script) [] limit) (laws l nests (script_name, Script) [] limit) stmts g o).run c.new
      (record { opened = []; inner = tt; are = refl; deep = d }))

  -- for all statements and limits
  pub located : InScript x
  located = inside_so any_opened (script_name, Script) [] x (stop_of anything any_opened 0 (stmts_any stmts 0) refl)

  -- of statements as the reader gives them
  pub around_most : (funs : ℕ) → OfStmts (fitting funs) stmts funs → x.around ≤ funs
  around_most funs o = omega (
    arith,
    ap (λ (x : Stopped). x.around) p.is,
    whos_length p.state.parents,
    ap length p.at.are,
    length-append p.at.opened ((script_name, Script) ∷ []),
    p.at.deep,
  )
    where
      p : Stop (fitting funs) (few_opened funs) (script_name, Script) [] x
      p = stop_of (fitting funs) (few_opened funs) funs o (omega arith)

-- ## Every answer of the compiler

-- "the others leave 0"
pub record NoFunction (a : Answer) : Type 0 where
  pub function : a.function ≡ 0
  pub around : a.around ≡ 0

-- whatever the refusal
refusal_none : (r : Refusal) → NoFunction (refusal r)
unfolding refusal_in
refusal_none r =
    record {
      function = sym (ap (λ (a : Answer). a.function) (refusal_outside r));
      around = sym (ap (λ (a : Answer). a.around) (refusal_outside r));
    }

module _ (limits : Limits) (tree : List ℕ) (lent : Lent) where
  pub record Filled (a : Answer) : Type 0 where
    pub stmts : Stmts
    pub was_read : WasRead limits tree lent stmts
    -- what the compiler refuses them by, and in which state
    pub refused : Stopped
    pub compiled : c.compile_functions (code_limit lent) stmts ≡ err refused
    pub located : InScript refused
    -- "the name number of the innermost open function and how many functions are open around it"
    pub answers : a ≡ in_function (refusal refused.what) located.state.ctx.name (length located.state.parents)
    -- "0 in the script", and only there, "whose name is 3"
    pub script_exactly : (a.around ≡ 0) ↔ (located.state.ctx.type ≡ Script)
    pub script_named : a.around ≡ 0 → a.function ≡ script_name

  filled_so : (stmts : Stmts) → WasRead limits tree lent stmts → (x : Stopped) → c.compile_functions (code_limit lent) stmts ≡ err x → Filled (refusal_in x)
  unfolding refusal_in
  filled_so stmts w x e =
      record {
        stmts = stmts;
        was_read = w;
        refused = x;
        compiled = e;
        located = located (code_limit lent) stmts x e;
        answers = ap refusal_in (located (code_limit lent) stmts x e).is;
        script_exactly = script_exactly (located (code_limit lent) stmts x e);
        script_named = script_named (located (code_limit lent) stmts x e);
      }

  filled_way : {a : Answer} → Way limits tree lent a → 10 ≤ a.number → a.number ≤ 30 → Filled a
  unfolding refusal
  filled_way (work_short l) b e = absurd (omega arith)
  filled_way (too_long t l) b e = absurd (omega arith)
  filled_way (not_read r h st d) b e = absurd (omega (arith, readers_number r h))
  filled_way (against_a_rule x h stmts w d) b e = filled_so stmts w x d
  filled_way (code_full x h stmts w d) b e = filled_so stmts w x d
  filled_way (out_full fs w l) b e = absurd (omega arith)
  filled_way (all_fits fs w l) b e = absurd (omega arith)

  none_way : {a : Answer} → Way limits tree lent a → (10 ≤ a.number → a.number ≤ 30 → ⊥) → NoFunction a
  unfolding refusal refusal_in
  none_way (work_short l) n = refusal_none WorkShort
  none_way (too_long t l) n = refusal_none TreeTooLong
  none_way (not_read r h st d) n = refusal_none r
  none_way (against_a_rule x h stmts w d) n = absurd (n (rusts_number x.what h).0 (omega (arith, rusts_number x.what h)))
  none_way (code_full x h stmts w d) n = absurd (n (omega (arith, ap number_of h)) (omega (arith, ap number_of h)))
  none_way (out_full fs w l) n = refusal_none (OutFull (length (image_for lent fs)))
  none_way (all_fits fs w l) n = record { function = refl; around = refl }

  module _ (bytes : Bytes tree) where
    abbrev answered : Answer
    answered = (compile_within limits tree lent).answer

    -- "All of 10 to 30 fill them"
    pub filled : 10 ≤ answered.number → answered.number ≤ 30 → Filled answered
    filled b e = filled_way (way limits tree lent bytes) b e

    -- "the others leave 0"
    pub none_filled : (answered.number < 10) ⊎ (30 < answered.number) → NoFunction answered
    none_filled (inl l) = none_way (way limits tree lent bytes) (λ b e. omega arith)
    none_filled (inr l) = none_way (way limits tree lent bytes) (λ b e. omega arith)

    -- no more functions are open around an error than may stand in one another
    pub around_at_most : answered.around ≤ limits.funs
    unfolding refusal refusal_in
    around_at_most = by_way (way limits tree lent bytes)
      where
        of_refused : (stmts : Stmts) → WasRead limits tree lent stmts → (x : Stopped) → c.compile_functions (code_limit lent) stmts ≡ err x →
            x.around ≤ limits.funs
        of_refused stmts w x e =
            around_most (code_limit lent) stmts x e limits.funs (tree_fits tree bytes limits.depth limits.funs stmts w.next w.read).parts

        by_way : {a : Answer} → Way limits tree lent a → a.around ≤ limits.funs
        by_way (work_short l) = omega arith
        by_way (too_long t l) = omega arith
        by_way (not_read r h st d) = omega (arith, (refusal_none r).around)
        by_way (against_a_rule x h stmts w d) = of_refused stmts w x d
        by_way (code_full x h stmts w d) = of_refused stmts w x d
        by_way (out_full fs w l) = omega arith
        by_way (all_fits fs w l) = omega arith

-- ## The other answers

pub check_fills_none : (image : List ℕ) → NoFunction (check image)
unfolding check checker.verdict
check_fills_none image = by_image (image_of image)
  where
    by_image : (o : Option (List ObjectFunction)) → NoFunction (checker.verdict o)
    by_image none = refusal_none ImageRefused
    by_image (some fs) = record { function = refl; around = refl }

pub code_answer_fills_none : (image : List ℕ) (k : ℕ) → NoFunction (code_answer image k)
unfolding code_answer checker.code_verdict
code_answer_fills_none image k = by_image (image_of image)
  where
    by_number : (b : Bool) → NoFunction (if b then accepted 0 else refusal NoSuchFunction)
    by_number true = record { function = refl; around = refl }
    by_number false = refusal_none NoSuchFunction

    by_image : (o : Option (List ObjectFunction)) → NoFunction (checker.code_verdict k o)
    by_image none = refusal_none ImageRefused
    by_image (some fs) = by_number (ltb k (length fs))

pub code_part_fills_none : (image : List ℕ) (k : ℕ) → NoFunction (code_part image k)
unfolding code_part
code_part_fills_none image k = record { function = refl; around = refl }

pub directory_fills_none : (image : List ℕ) → NoFunction (directory_of image)
unfolding directory_of checker.directory_verdict
directory_fills_none image = by_image (image_of image)
  where
    by_size : (fs : List ObjectFunction) (b : Bool) →
        NoFunction
        (if b then accepted 0
        else record { number = 0; at = length (image_bytes fs); end = length image; name = 0; length = length fs; function = 0; around = 0 })
    by_size fs true = record { function = refl; around = refl }
    by_size fs false = record { function = refl; around = refl }

    by_image : (o : Option (List ObjectFunction)) → NoFunction (checker.directory_verdict (length image) o)
    by_image none = refusal_none ImageRefused
    by_image (some fs) = by_size fs (eqb (length (image_bytes fs)) (length image))

pub code_through_fills_none : (image : List ℕ) (place k : ℕ) → NoFunction (code_through image place k)
unfolding code_through checker.entry_part checker.record_part
code_through_fills_none image place k = by_entry (checker.directory_entry image k place)
  where
    by_record : (o : Read ObjectFunction) → NoFunction (checker.record_part image o)
    by_record (got f next) = record { function = refl; around = refl }
    by_record (bad r) = refusal_none r

    by_entry : (o : Read ℕ) → NoFunction (checker.entry_part image o)
    by_entry (got offset next) = by_record (read_function image offset)
    by_entry (bad r) = refusal_none r

pub span_fills_none : (runs : List Run) (offset : ℕ) → NoFunction (span_of runs offset)
unfolding span_of
span_fills_none [] offset = refusal_none NoSuchByte
span_fills_none (run ∷ runs) offset = by_count (ltb offset run.count) (span_fills_none runs (offset - run.count))
  where
    by_count : (b : Bool) → NoFunction (span_of runs (offset - run.count)) →
        NoFunction (if b then at_span 0 run.span 0 else span_of runs (offset - run.count))
    by_count true h = record { function = refl; around = refl }
    by_count false h = h

pub touch_fills_none : (image : List ℕ) (name : ℕ) → NoFunction (touch image name)
unfolding touch touching.touch_verdict touching.search
touch_fills_none image name = by_image (image_of image)
  where
    by_standing : (read : ℕ) (ss : List Standing) → NoFunction (touching.search name read ss)
    by_standing read [] = record { function = refl; around = refl }
    by_standing read (s ∷ rest) = by_test (touching.touches name s) (by_standing (read + 1) rest)
      where
        by_test : (b : Bool) → NoFunction (touching.search name (read + 1) rest) →
            NoFunction (if b then touching.hit (read + 1) s else touching.search name (read + 1) rest)
        by_test true h = record { function = refl; around = refl }
        by_test false h = h

    by_image : (o : Option (List ObjectFunction)) → NoFunction (touching.touch_verdict name o)
    by_image none = refusal_none ImageRefused
    by_image (some fs) = by_standing 0 (touching.all_standing fs 0 fs)

-- ## By the tree and the limits alone

pub record SameFunction (a b : Answer) : Type 0 where
  pub function : a.function ≡ b.function
  pub around : a.around ≡ b.around

-- what the compiler comes to says both, whatever is lent for the image
same_out : (lent lent' : Lent) (x : Compiled) → SameFunction (entry.write_out lent x).answer (entry.write_out lent' x).answer
unfolding entry.write_out entry.write_image entry.leaves
same_out lent lent' (refused y) = record { function = refl; around = refl }
same_out lent lent' (functions_are fs) =
    record { function = (of_image lent).function ∙ sym (of_image lent').function; around = (of_image lent).around ∙ sym (of_image lent').around }
  where
    by_room : (lent : Lent) (b : Bool) → NoFunction (room lent (image_for lent fs) b).answer
    by_room lent true = record { function = refl; around = refl }
    by_room lent false = refusal_none (OutFull (length (image_for lent fs)))

    of_image : (lent : Lent) → NoFunction (entry.write_image lent (image_for lent fs)).answer
    of_image lent = by_room lent (leb (length (image_for lent fs)) lent.output_bytes)

module _ (limits : Limits) (tree : List ℕ) (lent lent' : Lent) where
  abbrev SameInBoth : Type 0
  SameInBoth = SameFunction (compile_within limits tree lent).answer (compile_within limits tree lent').answer

  -- two rooms that are enough give the same function, whatever is asked for; where the same is asked for, the same answer: Room `enough_in_both`
  pub same_in_both : Enough (compile_within limits tree lent).answer → Enough (compile_within limits tree lent').answer → SameInBoth
  same_in_both n n' = let (x, e, e') = one_in_both limits tree lent lent' n n' in rw (e, e') (same_out lent lent' x)

  -- and so do two rooms with one code limit, 30 and 31 among their answers
  pub same_by_limit : code_limit lent ≡ code_limit lent' → (compile_within limits tree lent).answer.number ≢ 1 →
      (compile_within limits tree lent').answer.number ≢ 1 → SameInBoth
  same_by_limit l n n' =
      rw (has_table limits tree lent n, has_table limits tree lent' n', l) (same_out lent lent' (compile_tree limits tree (code_limit lent')))
