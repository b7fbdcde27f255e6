-- What `opened` and the two counts on the tree give: P12, whose inner function stands in another, whole and cut short.
use mathlib.Core.Path.{◌≡◌, refl}
use mathlib.Core.Option.{some}
use mathlib.Core.List.{◌∷◌, []}
use Prim.Native.Nat.{ℕ}
use lib.ListN.{take}
use Rattle.rules.specs.Tree.{Stmts, StmtFun, StmtReturn, ExprVar, ◌∷ˢ◌, fun, []ˢ}
use Rattle.rules.specs.Reader.{got}
use Rattle.rules.specs.TreeFile as t
use Rattle.rules.proofs.Examples.{hex, P12_tree, from_to}
use Rattle.rules.proofs.Computes as computes
use Rattle.tree_file_laws.proofs.Fits.{record_depth, nested_funs}
use Rattle.tree_file_laws.proofs.Names as n
use Rattle.tree_file_laws.proofs.Names.{names_of}
use Rattle.tree_file_laws.proofs.Opened.{Opened, opened, first_passing}

abbrev at_place : (place depth nesting : ℕ) → Opened
at_place place depth nesting = record { place = place; depth = depth; nesting = nesting }

-- fun f(x) { fun g() { return x; } }
abbrev P12 : Stmts
P12 =
    StmtFun (from_to 0 34)
    (fun 4 (6 ∷ []) (StmtFun (from_to 11 32) (fun 5 [] (StmtReturn (from_to 21 30) (some (ExprVar (from_to 28 29) 6)) ∷ˢ []ˢ)) ∷ˢ []ˢ)) ∷ˢ []ˢ

pub record P12Shown : Type 0 where
  pub is_read : t.read_tree P12_tree 4 2 ≡ got P12 78
  pub depth : record_depth P12 ≡ 4
  pub nesting : nested_funs P12 ≡ 2
  pub names : names_of P12_tree ≡ (0x66 ∷ []) ∷ (0x67 ∷ []) ∷ (0x78 ∷ []) ∷ []
  -- SF, SF, SR, EV
  pub records : opened P12_tree ≡ at_place 21 1 1 ∷ at_place 39 2 2 ∷ at_place 55 3 2 ∷ at_place 66 4 2 ∷ []
  -- the bytes end in the fields of the SR: its mark is still read
  pub cut : opened (take 60 P12_tree) ≡ at_place 21 1 1 ∷ at_place 39 2 2 ∷ at_place 55 3 2 ∷ []
  -- 4 is asked before 5, and what comes first counts
  pub too_deep : first_passing 1 1 (opened P12_tree) ≡ some (at_place 39 2 2)
  pub too_many : first_passing 3 1 (opened P12_tree) ≡ some (at_place 39 2 2)

pub P12_so : P12Shown
unfolding hex computes.tree_file n.names_of n.texts_of n.read_texts n.read_text
P12_so =
    record {
      is_read = refl;
      depth = refl;
      nesting = refl;
      names = refl;
      records = refl;
      cut = refl;
      too_deep = refl;
      too_many = refl;
    }
