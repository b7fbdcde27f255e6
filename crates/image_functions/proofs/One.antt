-- Laws of one function: what each stage told comes to what the rules read, and to what is asked of it.
use mathlib.Core.Path.{◌≡◌, refl, sym, ap, ◌∙◌}
use mathlib.Core.Bool.{Bool, true, false, ◌&&◌}
use mathlib.Core.Option.{Option, none, some}
use mathlib.Core.List.{List}
use Prim.Native.Nat.{ℕ, ◌+◌, ◌-◌, ◌<◌, ◌≤◌}
use native.Mathlib.Omega.{arith}
use lib.ListN.{length, get_or, take, drop, length-take, length-drop, get_or-eq_default}
use lib.Seq.{get_or-drop, get_or-take}
use lib.Dec.{eqb, ltb}
use borrow.Author.Tests.{eq-eqb, ne_eqb, ltb-true, ltb-false}
use Rattle.rules.specs.Base.{all}
use Rattle.std.specs.Prelude.{if◌then◌else◌, Some, None}
use Rattle.std.specs.declared.option.Option as answer
use Rattle.image_code.specs.declared.Kind as element
use Rattle.rules.specs.Reader.{Read, got, bad, many}
use Rattle.rules.specs.Chunk.{Constant, Run, total, ObjectFunction}
use Rattle.rules.specs.Division.{Kind, Instruction, divide, division, kind_at, run_fits}
use Rattle.rules.specs.ImageFile.{read_constant, read_run, read_function}
use Rattle.rules.specs.Checker.{runs_apart, distinct}
use Rattle.rules.specs.Checker as Checker
use Rattle.image_code.specs.Table.{code_right, judged_code, kinds_in, Wide}
use Rattle.image_code.specs.Table as Table
use Rattle.image_code.proofs.Below.{same_judged, few}
use Rattle.image_records.specs.declared.Header.{Header}
use Rattle.image_records.specs.Told.{head_at, runs_told, code_told}
use Rattle.image_records.proofs.Many.{Fails, same_got, place_bad}
use Rattle.image_records.proofs.Records.{Headed, headed, head_fails, Body, body_of, at_constants, at_runs, at_code, coded, whole_function, made}
use Rattle.image_records.proofs.Forward.{forward_many, forward_constant, forward_run}
use Rattle.image_constants.specs.Words.{constants_of, Gathered}
use Rattle.image_constants.specs.Earlier.{earlier, Kinds}
use Rattle.image_functions.specs.Judged.{constants_fine, constants_told, ConstantsRight, counted, code_done, code_fine, right, function_done, Judged}

-- two numbers, as the functions tell them
abbrev pub done : (n next : ℕ) → answer.Option (ℕ × ℕ)
done n next = Some (n, next)

pub done_same : (n next m last : ℕ) → done n next ≡ done m last → (n ≡ m) × (next ≡ last)
done_same n next m last e =
    let p : ◌≡◌ {A = ℕ × ℕ} (n, next) (m, last) = cc in
    (ap (λ (x : ℕ × ℕ). x.0) p, ap (λ (x : ℕ × ℕ). x.1) p)

and_false : (b : Bool) → (b && false) ≡ false
and_false true = refl
and_false false = refl

-- ## The constants

module _ (s : List ℕ) (k at n : ℕ) (words : List ℕ) where
  pub constants_stop : (kinds : List element.Kind) → Gathered s at n None words → ConstantsRight s k at n None kinds
  unfolding constants_told
  constants_stop kinds g =
      let f = place_bad _ g.told in
      record {
        told = sym (ap (constants_told k) f.is);
        table = λ cs next e b. absurd (cc);
      }

  module _ (next : ℕ) (r : answer.Option ℕ) (is_at : r ≡ Some next) (g : Gathered s at n r words) where
    abbrev are : many n (read_constant s) at ≡ got (constants_of n words) next
    are = g.are next is_at

    pub constants_old : (kinds : List element.Kind) → false ≡ distinct (constants_of n words) → ConstantsRight s k at n None kinds
    unfolding constants_told constants_fine
    constants_old kinds e =
        record {
          told = sym (ap (constants_told k) are ∙ rw (← e) refl);
          table = λ cs next e b. absurd (cc);
        }

    pub constants_wrong : (kinds : List element.Kind) → Kinds (earlier s k) k (constants_of n words) false kinds → ConstantsRight s k at n None kinds
    unfolding constants_told constants_fine
    constants_wrong kinds w =
        let e = w.told in
        record {
          told = sym (ap (constants_told k) are ∙ rw (← e, and_false (distinct (constants_of n words))) refl);
          table = λ cs next e b. absurd (cc);
        }

    pub constants_done : (kinds : List element.Kind) → true ≡ distinct (constants_of n words) → Kinds (earlier s k) k (constants_of n words) true kinds
        → ConstantsRight s k at n (Some next) kinds
    unfolding constants_told constants_fine
    constants_done kinds d w =
        let e = w.told in
        record {
          told = sym (ap (constants_told k) are ∙ rw (← d, ← e) refl);
          table =
              λ cs next' f b p h. (let q : constants_of n words ≡ cs = (same_got are f).0 in
              w.table refl p h ∙ ap (λ (l : List Constant). kind_at (earlier s k) l p) q);
        }

-- ## The code

counted_is : (kind : ℕ → Kind) (u size next : ℕ) (d : Option (List Instruction))
    → counted (judged_code kind u size d) next ≡ (if code_fine kind u size d then Some (Checker.instructions d, next) else None)
unfolding judged_code counted code_fine Checker.instructions
counted_is kind u size next none = refl
counted_is kind u size next (some is) = by (code_right kind u size is)
  where
    by : (b : Bool) → counted (if b then Some (length is) else None) next ≡ (if b then Some (length is, next) else None)
    by true = refl
    by false = refl

yes_few : (kind : ℕ → Kind) (u size n : ℕ) (d : Option (List Instruction)) → Some n ≡ judged_code kind u size d → n ≤ length (Table.instructions d)
unfolding judged_code Table.instructions
yes_few kind u size n none e = absurd (cc)
yes_few kind u size n (some is) e = by (code_right kind u size is) e
  where
    by : (b : Bool) → Some n ≡ (if b then Some (length is) else None) → n ≤ length is
    by true e = let z : n ≡ length is = cc in omega arith
    by false e = absurd (cc)

-- a part of a slice, as the code has it
part_is : (s : List ℕ) (first size end : ℕ) → end ≡ first + size → take (end - first) (drop first s) ≡ take size (drop first s)
part_is s first size end e = let m : end - first ≡ size = omega arith in rw m refl

part_length : (s : List ℕ) (first size : ℕ) → first + size ≤ length s → length (take size (drop first s)) ≡ size
part_length s first size h = simp (length-take, length-drop) (omega arith)

-- a ring that has a slot for each place of an image has one for each place of a part of it
pub part_wide : (s : List ℕ) (first size room : ℕ) → Wide (length s) room → Wide (length (take size (drop first s))) room
part_wide s first size room w p h =
    let shorter : length (take size (drop first s)) ≤ length s = simp (length-take, length-drop) (omega arith) in
    w p (omega arith)

module _ (s : List ℕ) (kind : ℕ → Kind) (u sum size at : ℕ) where
  abbrev told : answer.Option (ℕ × ℕ)
  told = code_done kind u sum size s (code_told s size at)

  pub code_none : None ≡ code_told s size at → None ≡ told
  unfolding code_done
  code_none e = ap (code_done kind u sum size s) e

  module _ (first : ℕ) (e : Some first ≡ code_told s size at) where
    pub code_within : first + size ≤ length s
    code_within = (coded s size at first e).within

    pub code_other : (sum ≡ size → ⊥) → None ≡ told
    unfolding code_done
    code_other n = sym (ap (code_done kind u sum size s) (sym e) ∙ rw (ne_eqb _ _ n) refl)

    module _ (same : sum ≡ size) (end : ℕ) (is-end : end ≡ first + size) (r : answer.Option ℕ) (part : List ℕ) (is-part : part ≡ take (end - first) (drop first s))
        (judged : r ≡ judged_code kind u (length part) (divide kind 0 0 part)) where
      part_at : part ≡ take size (drop first s)
      part_at = is-part ∙ part_is s first size end is-end

      judged_at : r ≡ judged_code kind u size (divide kind 0 0 (take size (drop first s)))
      judged_at =
          judged ∙ ap (λ (l : List ℕ). judged_code kind u (length l) (divide kind 0 0 l)) part_at ∙
          ap (λ (m : ℕ). judged_code kind u m (divide kind 0 0 (take size (drop first s)))) (part_length s first size code_within)

      told_by : told ≡ counted r end
      unfolding code_done
      told_by = ap (code_done kind u sum size s) (sym e) ∙ rw (eq-eqb _ _ same, ← is-end, ← judged_at) refl

      pub code_refused : r ≡ None → None ≡ told
      unfolding counted
      code_refused q = sym (told_by ∙ ap (λ (v : answer.Option ℕ). counted v end) q)

      pub code_counted : (n : ℕ) → r ≡ Some n → Some (n, end) ≡ told
      unfolding counted
      code_counted n q = sym (told_by ∙ ap (λ (v : answer.Option ℕ). counted v end) q)

      pub code_few : (n : ℕ) → r ≡ Some n → (m next : ℕ) → done n end ≡ done m next → (at + m ≤ next) × (next ≤ length s)
      code_few n q m next f =
          let a : n ≤ length (Table.instructions (divide kind 0 0 (take size (drop first s)))) =
          yes_few kind u size n _ (sym q ∙ judged_at) in
          let b = few kind 0 0 (take size (drop first s)) in
          let c = part_length s first size code_within in
          let d = (coded s size at first e).on in
          let w = code_within in
          let x = done_same n end m next f in
          (omega arith, omega arith)

pub bad_few : (at size m next : ℕ) → None ≡ done m next → (at + m ≤ next) × (next ≤ size)
bad_few at size m next e = absurd (cc)

-- ## The function

module _ (s : List ℕ) (k at : ℕ) where
  abbrev before : List ObjectFunction
  before = earlier s k

  abbrev judgement : answer.Option (ℕ × ℕ)
  judgement = function_done before (read_function s at)

  fails_done : Fails (read_function s at) → None ≡ judgement
  unfolding function_done
  fails_done f = sym (ap (function_done before) f.is)

  pub judged_bad : None ≡ judgement → Judged s k at None
  judged_bad e = record { told = e; grows = bad_few at (length s) }

  pub headless : None ≡ head_at s at → Judged s k at None
  headless e = judged_bad (fails_done (head_fails s at e))

  module _ (h : Header) (is-head : Some h ≡ head_at s at) where
    abbrev b : Headed s at h
    b = headed s at h is-head

    pub header_within : at + 17 ≤ length s
    header_within = b.whole

    -- whatever is read has these parts
    body : (f : ObjectFunction) (next : ℕ) → read_function s at ≡ got f next → Body s b.name b.arity h.upvalues h.constants h.runs h.code (at + 17) f next
    body f next e = body_of s b.name b.arity h.upvalues h.constants h.runs h.code (at + 17) f next (sym b.is ∙ e)

    wrong_done : (r : Read ObjectFunction) → read_function s at ≡ r → ((f : ObjectFunction) (next : ℕ) → r ≡ got f next → right before f ≡ false)
        → None ≡ function_done before r
    unfolding function_done
    wrong_done (bad fault) e w = refl
    wrong_done (got f next) e w = rw (w f next refl) refl

    wrong : ((f : ObjectFunction) (next : ℕ) → read_function s at ≡ got f next → right before f ≡ false) → None ≡ judgement
    wrong w = wrong_done (read_function s at) refl w

    module _ (number_of_lem : length before ≡ k) where
      constants_by : (r : Read (List Constant)) → many h.constants (read_constant s) (at + 17) ≡ r → None ≡ constants_told k r → None ≡ judgement
      unfolding constants_told right
      constants_by (bad fault) e b' = fails_done (at_constants s at h b (record { fault = fault; is = e }))
      constants_by (got cs next) e b' =
          wrong (λ f n g.
          let o = body f n g in
          let q : cs ≡ o.cs = (same_got e o.constants_are).0 in
          let z : constants_fine (length before) f.chunk.constants ≡ false =
          ap (λ (x : ObjectFunction). constants_fine (length before) x.chunk.constants) o.is ∙ ap (λ (l : List Constant). constants_fine (length before) l) (sym q) ∙
          ap (λ (m : ℕ). constants_fine m cs) number_of_lem ∙ unfine (constants_fine k cs) b' in
          rw z refl)
        where
          unfine : (t : Bool) → None ≡ (if t then Some next else None) → t ≡ false
          unfine true e = absurd (cc)
          unfine false e = refl

      pub constants_bad : (n : ℕ) → n ≡ h.constants → None ≡ constants_told k (many n (read_constant s) (at + 17)) → Judged s k at None
      constants_bad n q e =
          judged_bad (constants_by (many h.constants (read_constant s) (at + 17)) refl (e ∙ ap (λ (m : ℕ). constants_told k (many m (read_constant s) (at + 17))) q))

      -- the constants are right
      pub record ConstantsAre (runs_at : ℕ) : Type 0 where
        pub cs : List Constant
        pub are : many h.constants (read_constant s) (at + 17) ≡ got cs runs_at
        pub fine : constants_fine k cs ≡ true

      constants_got : (runs_at : ℕ) (r : Read (List Constant)) → many h.constants (read_constant s) (at + 17) ≡ r → Some runs_at ≡ constants_told k r → ConstantsAre runs_at
      unfolding constants_told
      constants_got runs_at (bad fault) e t = absurd (cc)
      constants_got runs_at (got cs next) e t = by (constants_fine k cs) refl t
        where
          by : (t : Bool) → constants_fine k cs ≡ t → Some runs_at ≡ (if t then Some next else None) → ConstantsAre runs_at
          by true f t = let q : next ≡ runs_at = cc in record { cs = cs; are = e ∙ ap (got cs) q; fine = f }
          by false f t = absurd (cc)

      pub constants_are : (runs_at n : ℕ) → n ≡ h.constants → Some runs_at ≡ constants_told k (many n (read_constant s) (at + 17)) → ConstantsAre runs_at
      constants_are runs_at n q e =
          constants_got runs_at (many h.constants (read_constant s) (at + 17)) refl (e ∙ ap (λ (m : ℕ). constants_told k (many m (read_constant s) (at + 17))) q)

      module _ (runs_at : ℕ) (c : ConstantsAre runs_at) where
        runs_by : (r : Read (List Run)) → many h.runs (read_run s) runs_at ≡ r → None ≡ runs_told r → None ≡ judgement
        unfolding runs_told right
        runs_by (bad fault) e b' = fails_done (at_runs s at h b c.cs runs_at c.are (record { fault = fault; is = e }))
        runs_by (got rs next) e b' =
            wrong (λ f n g.
            let o = body f n g in
            let p = (same_got c.are o.constants_are).1 in
            let q : rs ≡ o.rs = (same_got e (ap (many h.runs (read_run s)) p ∙ o.runs_are)).0 in
            let z : (all run_fits f.chunk.spans && runs_apart f.chunk.spans) ≡ false =
            ap (λ (x : ObjectFunction). all run_fits x.chunk.spans && runs_apart x.chunk.spans) o.is ∙
            ap (λ (l : List Run). all run_fits l && runs_apart l) (sym q) ∙ unfine (all run_fits rs && runs_apart rs) b' in
            rw (z, and_false (constants_fine (length before) f.chunk.constants)) refl)
          where
            unfine : (t : Bool) → None ≡ (if t then done (total rs) next else None) → t ≡ false
            unfine true e = absurd (cc)
            unfine false e = refl

        pub runs_bad : (n : ℕ) → n ≡ h.runs → None ≡ runs_told (many n (read_run s) runs_at) → Judged s k at None
        runs_bad n q e =
            judged_bad (runs_by (many h.runs (read_run s) runs_at) refl (e ∙ ap (λ (m : ℕ). runs_told (many m (read_run s) runs_at)) q))

        pub record RunsAre (sum code_at : ℕ) : Type 0 where
          pub rs : List Run
          pub are : many h.runs (read_run s) runs_at ≡ got rs code_at
          pub fine : (all run_fits rs && runs_apart rs) ≡ true
          pub summed : sum ≡ total rs

        runs_got : (sum code_at : ℕ) (r : Read (List Run)) → many h.runs (read_run s) runs_at ≡ r → Some (sum, code_at) ≡ runs_told r → RunsAre sum code_at
        unfolding runs_told
        runs_got sum code_at (bad fault) e t = absurd (cc)
        runs_got sum code_at (got rs next) e t = by (all run_fits rs && runs_apart rs) refl t
          where
            by : (t : Bool) → (all run_fits rs && runs_apart rs) ≡ t → done sum code_at ≡ (if t then done (total rs) next else None) → RunsAre sum code_at
            by true f t = let z = done_same sum code_at (total rs) next t in record { rs = rs; are = e ∙ ap (got rs) (sym z.1); fine = f; summed = z.0 }
            by false f t = absurd (cc)

        pub runs_are : (sum code_at n : ℕ) → n ≡ h.runs → Some (sum, code_at) ≡ runs_told (many n (read_run s) runs_at) → RunsAre sum code_at
        runs_are sum code_at n q e =
            runs_got sum code_at (many h.runs (read_run s) runs_at) refl (e ∙ ap (λ (m : ℕ). runs_told (many m (read_run s) runs_at)) q)

        module _ (sum code_at : ℕ) (r : RunsAre sum code_at) (bytes : (i : ℕ) → get_or s i 0 < 256) (kinds : List element.Kind)
            (table : (p : ℕ) → p < 256 → kinds_in kinds p ≡ kind_at before c.cs p) where
          abbrev ops : ℕ → List ℕ
          ops first = take h.code (drop first s)

          -- code that begins at a place
          abbrev made_at : ℕ → ObjectFunction
          made_at first = made s b.name b.arity h.upvalues c.cs r.rs (ops first)

          ops_bytes : (first i : ℕ) → get_or (ops first) i 0 < 256
          ops_bytes first i = by (ltb i h.code) refl
            where
              by : (t : Bool) → ltb i h.code ≡ t → get_or (ops first) i 0 < 256
              by true e =
                  let l : i < h.code = ltb-true _ _ e in
                  rw (get_or-take h.code (drop first s) i 0 l, get_or-drop first s i 0) (bytes (first + i))
              by false e =
                  let l : h.code ≤ i = ltb-false _ _ e in
                  let m : length (ops first) ≤ i = simp length-take (omega arith) in
                  rw (get_or-eq_default (ops first) 0 m) (omega arith)

          right_is : (first : ℕ) → first + h.code ≤ length s → right before (made_at first)
              ≡ (eqb sum h.code && code_fine (kind_at before c.cs) h.upvalues h.code (divide (kind_at before c.cs) 0 0 (ops first)))
          unfolding right division
          right_is first w =
              let f : constants_fine (length before) c.cs ≡ true = ap (λ (m : ℕ). constants_fine m c.cs) number_of_lem ∙ c.fine in
              rw (f, r.fine, part_length s first h.code w, ← r.summed) refl

          split : (a d : Bool) (n next : ℕ) → (if a && d then done n next else None) ≡ (if a then (if d then done n next else None) else None)
          split true d n next = refl
          split false d n next = refl

          whole_done : (first : ℕ) → Some first ≡ code_told s h.code code_at → code_done (kinds_in kinds) h.upvalues sum h.code s (Some first) ≡ judgement
          unfolding function_done code_done division
          whole_done first e =
              let d = coded s h.code code_at first e in
              let read : read_function s at ≡ got (made_at first) (first + h.code) =
              whole_function s at h b c.cs runs_at c.are r.rs code_at r.are first d in
              sym
              (ap (function_done before) read ∙
              ap (λ (t : Bool). if t then Some (Checker.instructions (divide (kind_at before c.cs) 0 0 (ops first)), first + h.code) else None) (right_is first d.within) ∙
              split (eqb sum h.code) _ _ _ ∙
              ap (λ (x : answer.Option (ℕ × ℕ)). if eqb sum h.code then x else None)
              (sym (counted_is (kind_at before c.cs) h.upvalues h.code (first + h.code) (divide (kind_at before c.cs) 0 0 (ops first))) ∙
              ap (λ (v : answer.Option ℕ). counted v (first + h.code)) (sym (same_judged (kinds_in kinds) (kind_at before c.cs) table h.upvalues h.code (ops first) (ops_bytes first)))))

          code_by : (p : answer.Option ℕ) → p ≡ code_told s h.code code_at → code_done (kinds_in kinds) h.upvalues sum h.code s p ≡ judgement
          unfolding code_done
          code_by None e = fails_done (at_code s at h b c.cs runs_at c.are r.rs code_at r.are e)
          code_by (Some first) e = whole_done first e

          further : at ≤ code_at
          further =
              let x = forward_many (read_constant s) (forward_constant s) h.constants (at + 17) runs_at c.cs c.are in
              let y = forward_many (read_run s) (forward_run s) h.runs runs_at code_at r.rs r.are in
              omega arith

          pub function_judged : (result : answer.Option (ℕ × ℕ)) (size u : ℕ) → size ≡ h.code → u ≡ h.upvalues
              → result ≡ code_done (kinds_in kinds) u sum size s (code_told s size code_at)
              → ((n next : ℕ) → result ≡ Some (n, next) → (code_at + n ≤ next) × (next ≤ length s))
              → Judged s k at result
          function_judged result size u q v e grows =
              record {
                told =
                    e ∙ ap (λ (m : ℕ). code_done (kinds_in kinds) u sum m s (code_told s m code_at)) q ∙
                    ap (λ (m : ℕ). code_done (kinds_in kinds) m sum h.code s (code_told s h.code code_at)) v ∙ code_by (code_told s h.code code_at) refl;
                grows = λ n next f. (let g = grows n next f in let w = further in (omega arith, g.1));
              }
