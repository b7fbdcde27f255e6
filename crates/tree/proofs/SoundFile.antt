-- What is known of a file that was found sound: its statements are a row that the rules read from the place that came back to the file's end.
use mathlib.Core.Path.{◌≡◌, refl, sym, ap, ◌∙◌}
use mathlib.Core.Bool.{Bool, true, false}
use mathlib.Core.Option.{none}
use mathlib.Core.List.{List}
use Prim.Native.Nat.{ℕ, ◌≤◌}
use native.Mathlib.Omega.{arith}
use lib.ListN.{length}
use lib.Dec.{leb, eqb}
use borrow.Author.Tests.{leb-true, leb-false, eqb-true, eqb-false}
use Rattle.rules.specs.Limits.{first_limits, max_names, max_tree}
use Rattle.rules.specs.declared.Refusal.{Refusal}
use Rattle.rules.specs.declared.Refusal.TheVariants.{TreeForm, TreeTooLong}
use Rattle.rules.specs.Tree.{Stmts}
use Rattle.rules.specs.Reader.{Read, got, bad, go_on, ◌>>=◌, ◌>>◌, return, here, need}
use Rattle.rules.specs.Compiler.{compile_functions}
use Rattle.rules.specs.Answer.{outside}
use Rattle.rules.specs.Entry.{refused, from_outcome, from_read, compile_tree}
use Rattle.rules.specs.TreeFile.{read_stmts, read_stmt, read_names, read_tree}
use Rattle.fields.specs.Words.{word16, letters}
use Rattle.fields.proofs.Reading.{bad_got}
use Rattle.tree_small.specs.Places.{place}
use Rattle.tree.specs.Checked.{place_or_0, script_of, checked, checked_file}
use Rattle.tree.specs.declared.Script.{Script}
use Rattle.std.specs.Prelude.{Result, Ok, Err}
use Rattle.tree.proofs.Whole.{file_cut, mark_not, too_many, from_names, from_stmts}
use Rattle.tree_laws.proofs.Taken.{first, got_thing, got_next}
use Rattle.fields.specs.Marks as marks

pub record SoundFile (tree : List ℕ) (depth funs : ℕ) (script : Script) : Type 0 where
  pub bound : 6 ≤ length tree
  pub names_are : script.names ≡ word16 tree 2
  pub names_small : script.names ≤ max_names
  pub count_is : script.count ≡ word16 tree 4
  pub stmts : Stmts
  pub whole : read_tree tree depth funs ≡ got stmts (length tree)
  pub rest : read_stmts script.count (read_stmt tree script.names depth funs) script.at ≡ got stmts (length tree)

module _ (tree : List ℕ) (depth funs : ℕ) where
  pub record Rest (stmts : Stmts) (n : ℕ) : Type 0 where
    pub end : n ≡ length tree
    pub rest : read_stmts (word16 tree 4) (read_stmt tree (word16 tree 2) depth funs) (place_or_0 (place (read_names tree (word16 tree 2) none 6))) ≡ got stmts (length tree)

  last_if : (at : ℕ) (t : Bool) {s stmts : Stmts} {n : ℕ} → eqb at (length tree) ≡ t
      → (here >>= λ end. need (eqb end (length tree)) (TreeForm end) >> return s) at ≡ got stmts n → (at ≡ length tree) × (◌≡◌ {A = Read Stmts} (got s at) (got stmts n))
  unfolding here ◌>>=◌ ◌>>◌ go_on need return
  last_if at true {s} {stmts} {n} e r = (eqb-true _ _ e, rw e at r)
  last_if at false {s} {stmts} {n} e r = absurd (bad_got (rw e at r))

  rest_of : {stmts : Stmts} {n : ℕ} → go_on (read_names tree (word16 tree 2) none 6) (λ _. from_stmts tree depth funs) ≡ got stmts n → Rest stmts n
  unfolding ◌>>=◌ place place_or_0
  rest_of {stmts} {n} r =
      let x = first (read_names tree (word16 tree 2) none 6) (λ _. from_stmts tree depth funs) r in
      let y = first (read_stmts (word16 tree 4) (read_stmt tree (word16 tree 2) depth funs) x.next) _ x.rest in
      let z = last_if y.next _ refl y.rest in
      let p : place_or_0 (place (read_names tree (word16 tree 2) none 6)) ≡ x.next = ap (λ q. place_or_0 (place q)) x.is in
      record {
        end = sym (got_next z.1) ∙ z.0;
        rest =
            ap (read_stmts (word16 tree 4) (read_stmt tree (word16 tree 2) depth funs)) p ∙ y.is ∙
            ap (got y.thing) z.0 ∙ ap (λ s. got s (length tree)) (got_thing z.1);
      }

  sound_if : (c m k : Bool) → leb 6 (length tree) ≡ c → eqb (letters tree 0) marks.TR ≡ m → leb (word16 tree 2) max_names ≡ k
      → {stmts : Stmts} {n : ℕ} → read_tree tree depth funs ≡ got stmts n → SoundFile tree depth funs (script_of tree)
  unfolding script_of
  sound_if false m k h e l r = absurd (bad_got (sym (file_cut tree depth funs (leb-false 6 (length tree) h)) ∙ r))
  sound_if true false k h e l r = let b = leb-true 6 (length tree) h in absurd (bad_got (sym (mark_not tree depth funs (omega arith) (eqb-false _ _ e)) ∙ r))
  sound_if true true false h e l r =
      absurd (bad_got (sym (too_many tree depth funs (leb-true 6 (length tree) h) (eqb-true _ _ e) (leb-false _ _ l)) ∙ r))
  sound_if true true true h e l {stmts} {n} r =
      let b = leb-true 6 (length tree) h in
      let w = leb-true (word16 tree 2) max_names l in
      let q = rest_of (sym (from_names tree depth funs b (eqb-true _ _ e) w) ∙ r) in
      record {
        bound = b;
        names_are = refl;
        names_small = w;
        count_is = refl;
        stmts = stmts;
        whole = r ∙ ap (got stmts) q.end;
        rest = q.rest;
      }

  sound_from : (r : Read Stmts) → read_tree tree depth funs ≡ r → {script : Script} → checked tree r ≡ Ok script → SoundFile tree depth funs script
  unfolding checked
  sound_from (bad x) e q = let z : ◌≡◌ {A = ℕ} 0 1 = cc in absurd (omega arith)
  sound_from (got stmts n) e {script} q =
      let y : Ok (script_of tree) ≡ Ok script = q in
      let z : script_of tree ≡ script = cc in
      rw z at (sound_if _ _ _ refl refl refl e)

  pub sound : {script : Script} → checked tree (read_tree tree depth funs) ≡ Ok script → SoundFile tree depth funs script
  sound q = sound_from (read_tree tree depth funs) refl q

file_if : (tree : List ℕ) (t : Bool) → leb (length tree) max_tree ≡ t → {script : Script} → checked_file tree ≡ Ok script
    → (length tree ≤ max_tree) × SoundFile tree first_limits.depth first_limits.funs script
unfolding checked_file
file_if tree true e q = (leb-true (length tree) max_tree e, sound tree first_limits.depth first_limits.funs (rw e at q))
file_if tree false e {script} q = let y : ◌≡◌ {A = Result Script Refusal} (Err _) (Ok script) = rw e at q in let z : ◌≡◌ {A = ℕ} 0 1 = cc in absurd (omega arith)

-- within the rules' own limits
pub sound_file : (tree : List ℕ) {script : Script} → checked_file tree ≡ Ok script → (length tree ≤ max_tree) × SoundFile tree first_limits.depth first_limits.funs script
sound_file tree q = file_if tree _ refl q

-- ## What the whole comes to, by the answer

refused_by : (tree : List ℕ) (r : Read Stmts) (limit : ℕ) {x : Refusal} → checked tree r ≡ Err x → from_read r limit ≡ refused (outside x)
unfolding checked from_read
refused_by tree (got s n) limit q = let z : ◌≡◌ {A = ℕ} 0 1 = cc in absurd (omega arith)
refused_by tree (bad y) limit {x} q = let z : y ≡ x = cc in ap (λ (r : Refusal). refused (outside r)) z

refused_if : (tree : List ℕ) (limit : ℕ) (t : Bool) → leb (length tree) max_tree ≡ t → {x : Refusal} → checked_file tree ≡ Err x → compile_tree first_limits tree limit ≡ refused (outside x)
unfolding checked_file compile_tree
refused_if tree limit true e {x} q = rw e (refused_by tree (read_tree tree first_limits.depth first_limits.funs) limit (rw e at q))
refused_if tree limit false e {x} q =
    let y : Err TreeTooLong ≡ Err x = rw e at q in
    let z : TreeTooLong ≡ x = cc in
    rw e (ap (λ (r : Refusal). refused (outside r)) z)

-- a refusal of the reader is the compiler's
pub refused_file : (tree : List ℕ) (limit : ℕ) {x : Refusal} → checked_file tree ≡ Err x → compile_tree first_limits tree limit ≡ refused (outside x)
refused_file tree limit q = refused_if tree limit _ refl q

compiled_if : (tree : List ℕ) (limit : ℕ) (t : Bool) → leb (length tree) max_tree ≡ t → length tree ≤ max_tree → {stmts : Stmts} {n : ℕ}
    → read_tree tree first_limits.depth first_limits.funs ≡ got stmts n → compile_tree first_limits tree limit ≡ from_outcome (compile_functions limit stmts)
unfolding compile_tree from_read
compiled_if tree limit true e h q = rw (e, q)
compiled_if tree limit false e h q = let w = leb-false (length tree) max_tree e in absurd (omega arith)

-- and of a sound file it is what its statements come to
pub compiled_file : (tree : List ℕ) (limit : ℕ) {script : Script} (q : checked_file tree ≡ Ok script)
    → compile_tree first_limits tree limit ≡ from_outcome (compile_functions limit (sound_file tree q).1.stmts)
compiled_file tree limit q = compiled_if tree limit _ refl (sound_file tree q).0 (sound_file tree q).1.whole
