-- What the reader found in a sound file: the script's statements, and what the whole then comes to.
use Rattle.std.specs.Prelude.{Ok, Err}
use mathlib.Core.Path.{◌≡◌, sym, subst}
use mathlib.Core.List.{List}
use Prim.Native.Nat.{ℕ}
use lib.ListN.{length}
use Rattle.rules.specs.Limits.{first_limits}
use Rattle.rules.specs.Reader.{got}
use Rattle.rules.specs.TreeFile.{read_stmts, read_stmt}
use Rattle.rules.specs.Entry.{Compiled, refused, compile_tree}
use Rattle.steps.specs.Why.{told, Step}
use Rattle.steps.specs.declared.Why.{Why}
use Rattle.expr_laws.specs.Exprs.{There}
use Rattle.stmt_output_laws.specs.Output.{funs_left}
use Rattle.tree.specs.Checked.{checked_file}
use Rattle.tree.specs.declared.Script.{Script}
use Rattle.tree.proofs.SoundFile.{sound_file, compiled_file}
use Rattle.entry.specs.Whole.{rows_at, Rows, Recorded, ScriptedAs, Scripted}

-- the file's second field is how many names it has, and the script is level 0
rows_are : (tree : List ℕ) {script : Script} (q : checked_file tree ≡ Ok script) → rows_at tree script.count script.at ≡ got (sound_file tree q).1.stmts (length tree)
unfolding funs_left
rows_are tree {script} q =
    let f = (sound_file tree q).1 in
    subst (λ (k : ℕ). read_stmts script.count (read_stmt tree k first_limits.depth first_limits.funs) script.at ≡ got f.stmts (length tree)) f.names_are f.rest

pub rows_of : (tree : List ℕ) {script : Script} → checked_file tree ≡ Ok script → Rows tree script.count script.at
rows_of tree q = record { short = (sound_file tree q).0; stmts = (sound_file tree q).1.stmts; is = rows_are tree q }

pub there : {tree : List ℕ} {count at : ℕ} → Rows tree count at → There (rows_at tree count at)
there {tree} rows = record { thing = rows.stmts; next = length tree; is = rows.is }

-- by the answer of `compile_script`
module _ (tree : List ℕ) {script : Script} (q : checked_file tree ≡ Ok script) {limit : ℕ} {t out : List ℕ} {r : Step}
    (s : Scripted limit (rows_at tree script.count script.at) (length tree) t out r) where
  sound_as : ScriptedAs (compile_tree first_limits tree limit) t out r
  sound_as = subst (λ (made : Compiled). ScriptedAs made t out r) (sym (compiled_file tree limit q)) (s.did (sound_file tree q).1.stmts (rows_are tree q))

  pub sound_refused : {x : Why} → r ≡ Err x → compile_tree first_limits tree limit ≡ refused (told t x)
  sound_refused p = subst (ScriptedAs (compile_tree first_limits tree limit) t out) p sound_as

  pub sound_recorded : {n : ℕ} → r ≡ Ok n → Recorded (compile_tree first_limits tree limit) t out n
  sound_recorded p = subst (ScriptedAs (compile_tree first_limits tree limit) t out) p sound_as
