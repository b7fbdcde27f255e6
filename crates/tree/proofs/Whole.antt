-- The file as a whole: one law for each way out of it.
use mathlib.Core.Path.{◌≡◌, refl, sym, ap, ◌∙◌}
use mathlib.Core.Bool.{Bool, true, false}
use mathlib.Core.Option.{none}
use mathlib.Core.List.{List}
use Prim.Native.Nat.{ℕ, ◌≤◌, ◌<◌}
use native.Mathlib.Omega.{arith}
use lib.ListN.{length}
use lib.Dec.{leb, eqb}
use borrow.Author.Tests.{leb-true, leb-false, eqb-true, eqb-false, le-leb, lt-leb}
use Rattle.std.specs.Prelude.{if◌then◌else◌, Result, Ok, Err}
use Rattle.rules.specs.Limits.{max_names}
use Rattle.rules.specs.declared.Refusal.{Refusal}
use Rattle.rules.specs.declared.Refusal.TheVariants.{TreeForm}
use Rattle.rules.specs.Tree.{Stmts}
use Rattle.rules.specs.Reader.{Read, got, bad, Reader, go_on, ◌>>=◌, ◌>>◌, return, here, need}
use Rattle.rules.specs.TreeFile.{read_stmts, read_stmt, read_names, read_file, read_tree}
use Rattle.fields.specs.Words.{word16, letters}
use Rattle.fields.proofs.Reading.{a_u16, then_on, then_bad, mark_is_it, mark_is_not, mark_is_cut}
use Rattle.tree_small.specs.Places.{place, row}
use Rattle.tree_stmts.specs.Stmts.{stmt_place}
use Rattle.tree.specs.Checked.{place_or_0, script_of, checked}
use Rattle.tree.specs.declared.Script.{Script}
use Rattle.tree_names.proofs.Texts.{was_bad, bad_at}
use Rattle.tree_stmts.proofs.Statements.{stmts_place}
use Rattle.fields.specs.Marks as marks

-- the file ends where its last statement does
unfoldable pub ends : (tree : List ℕ) → Result ℕ Refusal → Script → Result Script Refusal
ends tree (Ok end) script = if eqb end (length tree) then Ok script else Err (TreeForm end)
ends tree (Err r) script = Err r

module _ (tree : List ℕ) (depth funs : ℕ) where
  -- what comes after the names
  abbrev pub from_stmts : Reader Stmts
  from_stmts = read_stmts (word16 tree 4) (read_stmt tree (word16 tree 2) depth funs) >>= λ stmts. here >>= λ end. need (eqb end (length tree)) (TreeForm end) >> return stmts

  mark_cut : length tree < 2 → read_tree tree depth funs ≡ bad (TreeForm 0)
  unfolding read_tree read_file ◌>>◌
  mark_cut h = then_bad _ (mark_is_cut tree (TreeForm 0) marks.TR 0 h)

  pub mark_not : 2 ≤ length tree → (letters tree 0 ≡ marks.TR → ⊥) → read_tree tree depth funs ≡ bad (TreeForm 0)
  unfolding read_tree read_file ◌>>◌
  mark_not h n = then_bad _ (mark_is_not tree (TreeForm 0) marks.TR 0 h n)

  names_cut : 2 ≤ length tree → letters tree 0 ≡ marks.TR → length tree < 4 → read_tree tree depth funs ≡ bad (TreeForm 0)
  unfolding read_tree read_file ◌>>◌ ◌>>=◌
  names_cut h e l = then_on _ (mark_is_it tree (TreeForm 0) marks.TR 0 h e) ∙ then_bad _ ((a_u16 tree).short (TreeForm 0) 2 l)

  count_cut : letters tree 0 ≡ marks.TR → 4 ≤ length tree → length tree < 6 → read_tree tree depth funs ≡ bad (TreeForm 0)
  unfolding read_tree read_file ◌>>◌ ◌>>=◌
  count_cut e h l =
      then_on _ (mark_is_it tree (TreeForm 0) marks.TR 0 (omega arith) e) ∙ then_on _ ((a_u16 tree).whole (TreeForm 0) 2 h) ∙
      then_bad _ ((a_u16 tree).short (TreeForm 0) 4 l)

  cut_if : (t s u : Bool) → leb 2 (length tree) ≡ t → eqb (letters tree 0) marks.TR ≡ s → leb 4 (length tree) ≡ u → length tree < 6 → read_tree tree depth funs ≡ bad (TreeForm 0)
  cut_if false s u h e g l = mark_cut (leb-false 2 (length tree) h)
  cut_if true false u h e g l = mark_not (leb-true 2 (length tree) h) (eqb-false _ _ e)
  cut_if true true false h e g l = names_cut (leb-true 2 (length tree) h) (eqb-true _ _ e) (leb-false 4 (length tree) g)
  cut_if true true true h e g l = count_cut (eqb-true _ _ e) (leb-true 4 (length tree) g) l

  pub file_cut : length tree < 6 → read_tree tree depth funs ≡ bad (TreeForm 0)
  file_cut l = cut_if _ _ _ refl refl refl l

  module _ (h : 6 ≤ length tree) (e : letters tree 0 ≡ marks.TR) where
    pub too_many : max_names < word16 tree 2 → read_tree tree depth funs ≡ bad (TreeForm 0)
    unfolding read_tree read_file ◌>>◌ ◌>>=◌ need
    too_many l =
        then_on _ (mark_is_it tree (TreeForm 0) marks.TR 0 (omega arith) e) ∙ then_on _ ((a_u16 tree).whole (TreeForm 0) 2 (omega arith)) ∙
        then_on _ ((a_u16 tree).whole (TreeForm 0) 4 h) ∙ then_bad _ (ap (λ (t : Bool). need t (TreeForm 0) 6) (lt-leb (word16 tree 2) max_names l))

    pub from_names : word16 tree 2 ≤ max_names → read_tree tree depth funs ≡ go_on (read_names tree (word16 tree 2) none 6) (λ _. from_stmts)
    unfolding read_tree read_file ◌>>◌ ◌>>=◌ need
    from_names l =
        then_on _ (mark_is_it tree (TreeForm 0) marks.TR 0 (omega arith) e) ∙ then_on _ ((a_u16 tree).whole (TreeForm 0) 2 (omega arith)) ∙
        then_on _ ((a_u16 tree).whole (TreeForm 0) 4 h) ∙ then_on _ (ap (λ (t : Bool). need t (TreeForm 0) 6) (le-leb (word16 tree 2) max_names l))

    pub names_bad : word16 tree 2 ≤ max_names → {names : ℕ} {x : Refusal} → names ≡ word16 tree 2 → Err x ≡ place (read_names tree names none 6) → read_tree tree depth funs ≡ bad x
    names_bad l {names} a p =
        from_names l ∙ then_bad _ (was_bad (read_names tree (word16 tree 2) none 6) (p ∙ ap (λ (k : ℕ). place (read_names tree k none 6)) a) refl)

    stmts_end : (at : ℕ) (stmts : Stmts) (t : Bool) → eqb at (length tree) ≡ t
        → checked tree ((here >>= λ end. need (eqb end (length tree)) (TreeForm end) >> return stmts) at) ≡ (if t then Ok (script_of tree) else Err (TreeForm at))
    unfolding here ◌>>=◌ ◌>>◌ go_on need return checked
    stmts_end at stmts true q = rw q
    stmts_end at stmts false q = rw q

    stmts_from : (r : Read Stmts)
        → checked tree (go_on r (λ stmts. here >>= λ end. need (eqb end (length tree)) (TreeForm end) >> return stmts)) ≡ ends tree (place r) (script_of tree)
    unfolding go_on checked ends place
    stmts_from (bad x) = refl
    stmts_from (got stmts at) = stmts_end at stmts _ refl

    after_names : (r : Read Unit) {at : ℕ} → place r ≡ Ok at
        → checked tree (go_on r (λ _. from_stmts)) ≡ ends tree (row (stmt_place tree (word16 tree 2) depth funs false) (word16 tree 4) at) (script_of tree)
    unfolding go_on place ◌>>=◌
    after_names (bad x) p = absurd (bad_at p)
    after_names (got u n) {at} p =
        let z : n ≡ at = cc in
        stmts_from (read_stmts (word16 tree 4) (read_stmt tree (word16 tree 2) depth funs) n) ∙
        ap (λ s. ends tree s (script_of tree)) (stmts_place tree (word16 tree 2) depth funs (word16 tree 4) n ∙ ap (row (stmt_place tree (word16 tree 2) depth funs false) (word16 tree 4)) z)

    -- the statements, from where the names end
    pub to_the_end : word16 tree 2 ≤ max_names → {names count at : ℕ} → names ≡ word16 tree 2 → count ≡ word16 tree 4 → Ok at ≡ place (read_names tree names none 6)
        → {end : Result ℕ Refusal} → end ≡ row (stmt_place tree names depth funs false) count at
        → ends tree end (record { names = names; count = count; at = at }) ≡ checked tree (read_tree tree depth funs)
    unfolding script_of place_or_0
    to_the_end l {names} {count} {at} a b p {end} q =
        let w : place (read_names tree (word16 tree 2) none 6) ≡ Ok at = sym (p ∙ ap (λ (k : ℕ). place (read_names tree k none 6)) a) in
        sym (ap (checked tree) (from_names l) ∙ after_names (read_names tree (word16 tree 2) none 6) w ∙
        rw (q, a, b, w))

pub checked_bad : (tree : List ℕ) {r : Read Stmts} {x : Refusal} → r ≡ bad x → Err x ≡ checked tree r
unfolding checked
checked_bad tree e = sym (ap (checked tree) e)
