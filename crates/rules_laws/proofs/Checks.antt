-- What the compiler gives, the image checker accepts: `sound` of the functions of every image, and what the output then holds.
use mathlib.Core.Path.{◌≡◌, refl, subst, subst⁻¹}
use mathlib.Core.Bool.{Bool, true, false, not}
use mathlib.Core.Option.{Option, none, some}
use mathlib.Core.List.{List, ◌∷◌, ◌++◌, []}
use Prim.Native.Nat.{ℕ, zero, suc, ◌+◌, ◌-◌, ◌*◌, ◌≤◌}
use native.Mathlib.Omega.{arith}
use lib.ListN.{length, length-append, replicate, get_elem?}
use lib.Dec.{T, leb, eqb, eqb→eq, eqb_refl, lt→ltb}
use Rattle.rules.specs.Base.{all}
use Rattle.std.specs.Prelude.{if◌then◌else◌}
use Rattle.rules.specs.declared.Refusal.{Refusal}
use Rattle.rules.specs.declared.Refusal.TheVariants as answer
use Rattle.rules.specs.Answer.{refusal, accepted, outside, refusal_in}
use Rattle.rules.specs.Tree.{Stmts}
use Rattle.rules.specs.Reader.{Read, got, bad}
use Rattle.rules.specs.TreeFile.{read_tree}
use Rattle.rules.specs.Op.{Operands, operands_of}
use Rattle.rules.specs.Chunk.{Constant, CN, CS, CF, same_constant, ObjectFunction}
use Rattle.rules.specs.Division as d
use Rattle.rules.specs.Division.{Instruction}
use Rattle.rules.specs.Checker as checker
use Rattle.rules.specs.Checker.{distinct, names, names_in_all, named_once, runs_apart, names_earlier, all_earlier, closures, closed_once}
use Rattle.rules.specs.Compiler as c
use Rattle.rules.specs.Compiler.{Compiler, Outcome, ok, err}
use Rattle.rules.specs.Image.{image_with}
use Rattle.rules.specs.Limits.{Limits, first_limits, max_tree}
use Rattle.rules.specs.Entry as entry
use Rattle.rules.specs.Entry.{Lent, Left, asks_directory, code_limit, Compiled, functions_are, refused, compile_tree, compile_lent, compile_within, compile}
use Rattle.rules_laws.proofs.Tests.{both, left, right, all_cons, all_and, below_all}
use Rattle.rules_laws.proofs.Keeps.{After}
use Rattle.rules_laws.proofs.Layer as layer
use Rattle.rules_laws.proofs.Facts.{All, same_eq, Form, plain, byte, captured_at, value_at, text_at, invoke, ahead, back, closure}
use Rattle.rules_laws.proofs.Pieces.{Piece, code}
use Rattle.rules_laws.proofs.Runs.{Counted, counted}
use Rattle.rules_laws.proofs.Coded.{Formed, Coded, Known, none_known, coded, in_order, Earlier, naming, closings, closes_if}
use Rattle.rules_laws.proofs.Constants.{Named, named, names_at}
use Rattle.rules_laws.proofs.CodeBytes as small
use Rattle.rules_laws.proofs.CodeBytes.{ByteList, AllSound, sound, zeros_after}
use Rattle.rules_laws.proofs.Demand3.{demand_3, divides, listing, instruction_of}

-- what comes back from an accepted tree
pub from_ok : {A : Type 0} (Q : A → Type 0) (o : Outcome A) (a : A) (s : Compiler) → o ≡ ok a s → After (λ a _. Q a) o → Q a
from_ok Q (ok b s') a s e h = let z : b ≡ a = cc in subst Q z h
from_ok Q (err x) a s e h = let z : ◌≡◌ {A = ℕ} 0 1 = cc in absurd (omega arith)

all_apart : (fs : List ObjectFunction) → All (λ (f : ObjectFunction). List ObjectFunction × Counted f.chunk) fs →
    T (all (λ (f : ObjectFunction). runs_apart f.chunk.spans) fs)
unfolding all
all_apart [] h = tt
all_apart (f ∷ fs) h = all_cons (λ (f : ObjectFunction). runs_apart f.chunk.spans) f fs h.0.1.apart (all_apart fs h.1)

constants_earlier : (number : ℕ) (cs : List Constant) → All (Earlier number) cs → T (all (names_earlier number) cs)
unfolding all names_earlier
constants_earlier number [] h = tt
constants_earlier number (CN v ∷ cs) h = all_cons (names_earlier number) (CN v) cs tt (constants_earlier number cs h.1)
constants_earlier number (CS v ∷ cs) h = all_cons (names_earlier number) (CS v) cs tt (constants_earlier number cs h.1)
constants_earlier number (CF v ∷ cs) h = all_cons (names_earlier number) (CF v) cs (lt→ltb v number h.0) (constants_earlier number cs h.1)

functions_earlier : (before fs : List ObjectFunction) → layer.Finished Known Coded none_known before fs → T (all_earlier (length before) fs)
unfolding all_earlier
functions_earlier before [] h = tt
functions_earlier before (f ∷ fs) h =
    both (all (names_earlier (length before)) f.chunk.constants) (all_earlier (length before + 1) fs)
    (constants_earlier (length before) f.chunk.constants h.0.1.earlier)
    (subst (λ (number : ℕ). T (all_earlier number fs)) (length-append before (f ∷ [])) (functions_earlier (before ++ (f ∷ [])) fs h.1))

-- ## One CLOSURE for each function among the constants

t→eq : (b : Bool) → T b → b ≡ true
t→eq true t = refl
t→eq false t = absurd t

some_eq : {o : Option Constant} (a b : Constant) → o ≡ some a → o ≡ some b → a ≡ b
some_eq a b e f = cc

same_self : (v : Constant) → same_constant v v ≡ true
unfolding same_constant
same_self (CN n) = t→eq (eqb n n) (eqb_refl n)
same_self (CS n) = t→eq (eqb n n) (eqb_refl n)
same_self (CF n) = t→eq (eqb n n) (eqb_refl n)

all_there : (p : Constant → Bool) (cs : List Constant) (place : ℕ) (v : Constant) → T (all p cs) → get_elem? cs place ≡ some v → T (p v)
all_there p [] place v t e = let z : ◌≡◌ {A = ℕ} 0 1 = cc in absurd (omega arith)
all_there p (x ∷ cs) zero v t e = let z : x ≡ v = cc in subst (λ (w : Constant). T (p w)) z (all_and p x cs t).0
all_there p (x ∷ cs) (suc place) v t e = all_there p cs place v (all_and p x cs t).1 e

-- an element that differs from all the others stands at none of their places
not_behind : (x : Constant) (cs : List Constant) (place : ℕ) → T (all (λ other. not (same_constant x other)) cs) → ¬ (get_elem? cs place ≡ some x)
not_behind x cs place t e = subst (λ (b : Bool). T (not b)) (same_self x) (all_there (λ other. not (same_constant x other)) cs place x t e)

one_place : (cs : List Constant) → T (distinct cs) → (i j : ℕ) (v : Constant) → get_elem? cs i ≡ some v → get_elem? cs j ≡ some v → i ≡ j
unfolding distinct
one_place [] t i j v e f = let z : ◌≡◌ {A = ℕ} 0 1 = cc in absurd (omega arith)
one_place (x ∷ cs) t zero zero v e f = refl
one_place (x ∷ cs) t zero (suc j) v e f =
    let z : x ≡ v = cc in
    absurd (not_behind x cs j (left (all (λ other. not (same_constant x other)) cs) (distinct cs) t) (rw z f))
one_place (x ∷ cs) t (suc i) zero v e f =
    let z : x ≡ v = cc in
    absurd (not_behind x cs i (left (all (λ other. not (same_constant x other)) cs) (distinct cs) t) (rw z e))
one_place (x ∷ cs) t (suc i) (suc j) v e f =
    let k : i ≡ j = one_place cs (right (all (λ other. not (same_constant x other)) cs) (distinct cs) t) i j v e f in omega arith

none_left : (number : ℕ) (cs : List Constant) → T (all (λ other. not (same_constant (CF number) other)) cs) → names number cs ≡ 0
unfolding names
none_left number [] t = refl
none_left number (x ∷ cs) t =
    by_test (same_constant (CF number) x) (all_and (λ other. not (same_constant (CF number) other)) x cs t).0
    (none_left number cs (all_and (λ other. not (same_constant (CF number) other)) x cs t).1)
  where
    by_test : (b : Bool) → T (not b) → names number cs ≡ 0 → (if b then 1 else 0) + names number cs ≡ 0
    by_test true t e = absurd t
    by_test false t e = omega arith

at_most_one : (number : ℕ) (cs : List Constant) → T (distinct cs) → names number cs ≤ 1
unfolding names distinct
at_most_one number [] t = omega arith
at_most_one number (x ∷ cs) t =
    by_test (same_constant (CF number) x) refl (at_most_one number cs (right (all (λ other. not (same_constant x other)) cs) (distinct cs) t))
  where
    by_test : (b : Bool) → same_constant (CF number) x ≡ b → names number cs ≤ 1 → (if b then 1 else 0) + names number cs ≤ 1
    by_test true e l =
        let z : CF number ≡ x = same_eq (CF number) x e in
        let k : names number cs ≡ 0 =
        none_left number cs (subst⁻¹ (λ (v : Constant). T (all (λ other. not (same_constant v other)) cs)) z (left (all (λ other. not (same_constant x other)) cs) (distinct cs) t)) in
        omega (arith, k)
    by_test false e l = omega arith

-- where no two constants are equal, to name a function is to name its constant's place
module _ (fs : List ObjectFunction) (cs : List Constant) (n : ℕ) (unequal : T (distinct cs)) (place number : ℕ) (there : get_elem? cs place ≡ some (CF number)) where
  names_place : (b m : ℕ) → get_elem? cs b ≡ some (CF m) → (if eqb b place then 1 else 0) ≡ (if eqb number m then 1 else 0) + 0
  names_place b m e = by_test (eqb b place) refl (eqb number m) refl
    where
      by_test : (p : Bool) → eqb b place ≡ p → (q : Bool) → eqb number m ≡ q → (if p then 1 else 0) ≡ (if q then 1 else 0) + 0
      by_test true e₁ true e₂ = refl
      by_test false e₁ false e₂ = refl
      by_test true e₁ false e₂ =
          let z : b ≡ place = eqb→eq b place (rw e₁ tt) in
          let k : CF m ≡ CF number = some_eq (CF m) (CF number) (subst (λ (i : ℕ). get_elem? cs i ≡ some (CF m)) z e) there in
          let w : m ≡ number = cc in
          absurd (subst (λ (b : Bool). T b) e₂ (rw w (eqb_refl number)))
      by_test false e₁ true e₂ =
          let w : number ≡ m = eqb→eq number m (rw e₂ tt) in
          let z : b ≡ place = one_place cs unequal b place (CF number) (rw w e) there in
          absurd (subst (λ (b : Bool). T b) e₁ (rw z (eqb_refl place)))

  form_closes : {kind : Operands} {bs : List ℕ} → Form fs cs n kind bs → checker.closes place kind bs ≡ naming cs number kind bs
  unfolding checker.closes naming names same_constant
  form_closes plain = refl
  form_closes (byte b) = refl
  form_closes (captured_at h b) = refl
  form_closes (value_at e v) = refl
  form_closes (text_at e) = refl
  form_closes (invoke e b) = refl
  form_closes ahead = refl
  form_closes back = refl
  form_closes (closure {place = b} {number = m} e f s t) = rw e (names_place b m e)

  listing_closures : (ps : List Piece) (h : All (Formed fs cs n) ps) (is : List Instruction) →
      closures place (listing fs cs n ps h is) ≡ closings cs number ps + closures place is
  unfolding listing closings closes_if closures instruction_of
  listing_closures [] h is = omega arith
  listing_closures (p ∷ ps) h is =
      let e : closes_if cs number (operands_of p.opcode) p.operands ≡ checker.closes place h.0.kind p.operands =
      rw (h.0.known, form_closes h.0.form) in
      omega (arith, e, listing_closures ps h.1 (instruction_of fs cs n (length (code ps)) h.0.kind p ∷ is))

closed_place : (fs : List ObjectFunction) (f : ObjectFunction) (x : Coded none_known [] fs f.upvalue_count f.chunk) → T (distinct f.chunk.constants) →
    (place : ℕ) → T (checker.closed_at fs f.chunk.constants (listing fs f.chunk.constants f.upvalue_count x.coding.pieces x.coding.formed []) place)
unfolding checker.closed_at d.kind_at d.kind_of d.is_function closures
closed_place fs f x t place = by_constant (get_elem? f.chunk.constants place) refl
  where
    is : List Instruction
    is = listing fs f.chunk.constants f.upvalue_count x.coding.pieces x.coding.formed []

    by_kind : (b : Bool) → closures place is ≡ 1 → T (if b then eqb (closures place is) 1 else true)
    by_kind true e = rw e tt
    by_kind false e = tt

    by_constant : (o : Option Constant) → get_elem? f.chunk.constants place ≡ o → T (if d.is_function (d.kind_of fs o) then eqb (closures place is) 1 else true)
    by_constant none e = tt
    by_constant (some (CN v)) e = tt
    by_constant (some (CS v)) e = tt
    by_constant (some (CF number)) e =
        by_kind (d.is_function (d.kind_of fs (some (CF number))))
        (omega (
          arith,
          listing_closures fs f.chunk.constants f.upvalue_count t place number e x.coding.pieces x.coding.formed [],
          x.closed number,
          at_most_one number f.chunk.constants t,
          names_at f.chunk.constants place number e,
        ))

function_closed : (fs : List ObjectFunction) (f : ObjectFunction) → Coded none_known [] fs f.upvalue_count f.chunk → T (distinct f.chunk.constants) →
    T (closed_once fs f)
unfolding closed_once checker.closed_in
function_closed fs f x t =
    subst⁻¹ (λ (is : Option (List Instruction)). T (checker.closed_in fs f is)) (divides fs f x)
    (below_all (length f.chunk.constants) (checker.closed_at fs f.chunk.constants (listing fs f.chunk.constants f.upvalue_count x.coding.pieces x.coding.formed []))
    (λ place l. closed_place fs f x t place))

all_closed : (all_of fs : List ObjectFunction) → All (λ (f : ObjectFunction). List ObjectFunction × Coded none_known [] all_of f.upvalue_count f.chunk) fs →
    T (all (λ (f : ObjectFunction). distinct f.chunk.constants) fs) → T (all (closed_once all_of) fs)
unfolding all
all_closed all_of [] h t = tt
all_closed all_of (f ∷ fs) h t =
    all_cons (closed_once all_of) f fs (function_closed all_of f h.0.1 (all_and (λ (f : ObjectFunction). distinct f.chunk.constants) f fs t).0)
    (all_closed all_of fs h.1 (all_and (λ (f : ObjectFunction). distinct f.chunk.constants) f fs t).1)

all_named : (fs : List ObjectFunction) → Named fs → T (named_once fs)
unfolding named_once
all_named fs h =
    below_all (length fs - 1) (λ number. eqb (names_in_all number fs) 1)
    (λ number l. subst⁻¹ (λ (k : ℕ). T (eqb k 1)) (h.once number (omega arith)) tt)

all_test : {A : Type 0} (p : A → Bool) (xs : List A) → All (λ (x : A). T (p x)) xs → T (all p xs)
unfolding all
all_test p [] h = tt
all_test p (x ∷ xs) h = all_cons p x xs h.0 (all_test p xs h.1)

-- whatever the statements and the code limit, if the compiler accepts, then what it gives is what the checker asks for
pub are_sound : (limit : ℕ) (stmts : Stmts) (fs : List ObjectFunction) (s : Compiler) → c.compile_functions limit stmts ≡ ok fs s → T (checker.sound fs)
unfolding checker.sound checker.facts
are_sound limit stmts fs s e =
    all_test (λ fact. fact) (checker.facts fs) (
      demand_3 limit stmts fs s e,
      (
        all_apart fs (from_ok (λ fs. All (λ (f : ObjectFunction). List ObjectFunction × Counted f.chunk) fs) (c.compile_functions limit stmts) fs s e (counted limit stmts)),
        (
          names_known.unlike,
          (
            functions_earlier [] fs (from_ok (λ fs. layer.Finished Known Coded none_known [] fs) (c.compile_functions limit stmts) fs s e (in_order limit stmts)),
            (all_named fs names_known, (all_closed fs fs all_coded names_known.unlike, tt)),
          ),
        ),
      ),
    )
  where
    names_known : Named fs
    names_known = from_ok Named (c.compile_functions limit stmts) fs s e (named limit stmts)

    all_coded : All (λ (f : ObjectFunction). List ObjectFunction × Coded none_known [] fs f.upvalue_count f.chunk) fs
    all_coded =
        from_ok (λ fs. All (λ (f : ObjectFunction). List ObjectFunction × Coded none_known [] fs f.upvalue_count f.chunk) fs) (c.compile_functions limit stmts) fs s e (coded limit stmts)

all_sound : (limit : ℕ) (stmts : Stmts) (fs : List ObjectFunction) (s : Compiler) → c.compile_functions limit stmts ≡ ok fs s → AllSound limit fs
all_sound limit stmts fs s e = from_ok (AllSound limit) (c.compile_functions limit stmts) fs s e (sound limit stmts)

module _ (limits : Limits) where
  -- what holds of whatever statements give holds of what a tree file's bytes give
  pub of_tree : (Q : List ObjectFunction → Type 0) (limit : ℕ) →
      ((stmts : Stmts) (fs : List ObjectFunction) (s : Compiler) → c.compile_functions limit stmts ≡ ok fs s → Q fs) →
      (tree : List ℕ) (fs : List ObjectFunction) → compile_tree limits tree limit ≡ functions_are fs → Q fs
  unfolding compile_tree entry.from_read entry.from_outcome
  of_tree Q limit law tree fs e = by_length (leb (length tree) max_tree) (read_tree tree limits.depth limits.funs) e
    where
      by_outcome : (stmts : Stmts) (o : Outcome (List ObjectFunction)) → c.compile_functions limit stmts ≡ o → entry.from_outcome o ≡ functions_are fs → Q fs
      by_outcome stmts (ok gs s) e₁ e₂ = let z : gs ≡ fs = cc in subst Q z (law stmts gs s e₁)
      by_outcome stmts (err x) e₁ e₂ = let z : ◌≡◌ {A = ℕ} 0 1 = cc in absurd (omega arith)

      by_read : (r : Read Stmts) → entry.from_read r limit ≡ functions_are fs → Q fs
      by_read (got stmts at) e = by_outcome stmts (c.compile_functions limit stmts) refl e
      by_read (bad r) e = let z : ◌≡◌ {A = ℕ} 0 1 = cc in absurd (omega arith)

      by_length : (b : Bool) (r : Read Stmts) → (if b then entry.from_read r limit else refused (outside answer.TreeTooLong)) ≡ functions_are fs → Q fs
      by_length true r e = by_read r e
      by_length false r e = let z : ◌≡◌ {A = ℕ} 0 1 = cc in absurd (omega arith)

  pub tree_checked : (tree : List ℕ) (limit : ℕ) (fs : List ObjectFunction) → compile_tree limits tree limit ≡ functions_are fs → T (checker.sound fs)
  tree_checked tree limit fs e = of_tree (λ fs. T (checker.sound fs)) limit (are_sound limit) tree fs e

  pub tree_sound : (tree : List ℕ) (limit : ℕ) (fs : List ObjectFunction) → compile_tree limits tree limit ≡ functions_are fs → AllSound limit fs
  tree_sound tree limit fs e = of_tree (AllSound limit) limit (all_sound limit) tree fs e

  -- nothing is given where the table is short
  pub from_lent : (tree : List ℕ) (lent : Lent) (fs : List ObjectFunction) → compile_lent limits tree lent ≡ functions_are fs →
      compile_tree limits tree (code_limit lent) ≡ functions_are fs
  unfolding compile_lent
  from_lent tree lent fs e = by_table (leb limits.table_bytes (8 * lent.table_words)) e
    where
      by_table : (b : Bool) → (if b then compile_tree limits tree (code_limit lent) else refused (outside answer.WorkShort)) ≡ functions_are fs →
          compile_tree limits tree (code_limit lent) ≡ functions_are fs
      by_table true e = e
      by_table false e = let z : ◌≡◌ {A = ℕ} 0 1 = cc in absurd (omega arith)

  pub lent_checked : (tree : List ℕ) (lent : Lent) (fs : List ObjectFunction) → compile_lent limits tree lent ≡ functions_are fs → T (checker.sound fs)
  lent_checked tree lent fs e = tree_checked tree (code_limit lent) fs (from_lent tree lent fs e)

  pub lent_sound : (tree : List ℕ) (lent : Lent) (fs : List ObjectFunction) → compile_lent limits tree lent ≡ functions_are fs → AllSound (code_limit lent) fs
  lent_sound tree lent fs e = tree_sound tree (code_limit lent) fs (from_lent tree lent fs e)

-- ## What is written

pub refusal_number : (r : Refusal) → 1 ≤ (refusal r).number
unfolding refusal
refusal_number answer.WorkShort = omega arith
refusal_number answer.TreeTooLong = omega arith
refusal_number (answer.TreeForm at) = omega arith
refusal_number (answer.TreeTooDeep at) = omega arith
refusal_number (answer.TooManyOpen at) = omega arith
refusal_number (answer.AlreadyDefined span name) = omega arith
refusal_number (answer.AccessInsideInitializer span name) = omega arith
refusal_number (answer.ClassInheritFromSelf span name) = omega arith
refusal_number (answer.JumpTooLarge span) = omega arith
refusal_number (answer.TooManyArgs span) = omega arith
refusal_number (answer.TooManyConstants span) = omega arith
refusal_number (answer.TooManyLocals span) = omega arith
refusal_number (answer.TooManyParams span) = omega arith
refusal_number (answer.TooManyUpvalues span) = omega arith
refusal_number (answer.ReturnInInitializer span) = omega arith
refusal_number (answer.ReturnOutsideFunction span) = omega arith
refusal_number (answer.SuperOutsideClass span) = omega arith
refusal_number (answer.SuperWithoutSuperclass span) = omega arith
refusal_number (answer.ThisOutsideClass span) = omega arith
refusal_number answer.CodeFull = omega arith
refusal_number (answer.OutFull needed) = omega arith
refusal_number answer.ImageRefused = omega arith
refusal_number answer.NoSuchFunction = omega arith
refusal_number answer.NoSuchByte = omega arith

-- the image of these functions, with a directory where the options ask for one
abbrev pub image_for : Lent → List ObjectFunction → List ℕ
image_for lent functions = image_with (asks_directory lent.options) functions

-- what is left where an image fits the output, and where it does not
abbrev pub room : Lent → (image : List ℕ) → (fits : Bool) → Left
room lent image fits =
    if fits
    then entry.leaves lent (accepted (length image)) (image ++ replicate (lent.output_bytes - length image) 0)
    else entry.leaves lent (refusal (answer.OutFull (length image))) (replicate lent.output_bytes 0)

-- an output of bytes that holds the image of functions that the checker accepts and that are within the lent sizes, and then zeros
pub record Holds (lent : Lent) (r : Left) : Type 0 where
  pub functions : List ObjectFunction
  pub are_checked : T (checker.sound functions)
  pub are_small : AllSound (code_limit lent) functions
  pub bytes : ByteList r.output
  pub says : r.answer ≡ accepted (length (image_for lent functions))
  pub holds : r.output ≡ image_for lent functions ++ replicate (lent.output_bytes - length (image_for lent functions)) 0

module _ (lent : Lent) where
  image_holds : (fs : List ObjectFunction) → T (checker.sound fs) → AllSound (code_limit lent) fs →
      (entry.write_image lent (image_for lent fs)).answer.number ≡ 0 → Holds lent (entry.write_image lent (image_for lent fs))
  unfolding entry.write_image entry.leaves
  image_holds fs h k e = by_room (leb (length (image_for lent fs)) lent.output_bytes) e
    where
      by_room : (b : Bool) → (room lent (image_for lent fs) b).answer.number ≡ 0 → Holds lent (room lent (image_for lent fs) b)
      by_room true e =
          record {
            functions = fs;
            are_checked = h;
            are_small = k;
            bytes =
                zeros_after (lent.output_bytes - length (image_for lent fs)) (small.image_with (asks_directory lent.options) (code_limit lent) fs k);
            says = refl;
            holds = refl;
          }
      by_room false e = absurd (omega (arith, refusal_number (answer.OutFull (length (image_for lent fs)))))

  -- for all limits, bytes and lent sizes: the answer 0 comes with such an output
  pub within_holds : (limits : Limits) (tree : List ℕ) → (compile_within limits tree lent).answer.number ≡ 0 → Holds lent (compile_within limits tree lent)
  unfolding compile_within entry.write_out entry.leaves refusal_in
  within_holds limits tree e = by_compiled (compile_lent limits tree lent) refl e
    where
      by_compiled : (x : Compiled) → compile_lent limits tree lent ≡ x → (entry.write_out lent x).answer.number ≡ 0 → Holds lent (entry.write_out lent x)
      by_compiled (functions_are fs) e₁ e₂ = image_holds fs (lent_checked limits tree lent fs e₁) (lent_sound limits tree lent fs e₁) e₂
      by_compiled (refused y) e₁ e₂ = absurd (omega (arith, refusal_number y.what))

  pub accepted_holds : (tree : List ℕ) → (compile tree lent).answer.number ≡ 0 → Holds lent (compile tree lent)
  accepted_holds tree e = within_holds first_limits tree e
