-- Laws of a whole image: its header, the bytes of its functions' code, and the answer.
use mathlib.Core.Path.{◌≡◌, refl, sym, ap, ◌∙◌}
use mathlib.Core.Bool.{Bool, true, false, ◌&&◌}
use mathlib.Core.Option.{Option, none, some}
use mathlib.Core.List.{List, ◌∷◌, []}
use Prim.Native.Nat.{ℕ, zero, suc, ◌+◌, ◌<◌, ◌≤◌}
use native.Mathlib.Omega.{arith}
use lib.ListN.{length, get_or, get_elem?}
use lib.Dec.{eqb, leb}
use borrow.Author.Tests.{lt-ltb, eqb-true, eqb-false, leb-true, leb-false}
use Rattle.std.specs.Prelude.{if◌then◌else◌, Some, None}
use Rattle.std.specs.declared.option.Option as answer
use Rattle.image_records.specs.declared.Header.{Header}
use Rattle.rules.specs.declared.Refusal.TheVariants.{ImageRefused}
use Rattle.rules.specs.Answer.{refusal, accepted}
use Rattle.rules.specs.Reader.{Read, got, bad, go_on, ◌>>=◌, ◌>>◌, return, here, need, u8, many}
use Rattle.rules.specs.Chunk.{ObjectFunction}
use Rattle.rules.specs.ImageFile.{read_function, read_behind, read_functions, read_image}
use Rattle.rules.specs.Checker.{named_once, sound, checked, image_of, verdict, check, instruction_count}
use Rattle.fields.specs.Words.{word32, letters}
use Rattle.fields.proofs.Reading.{found, a_u8, a_u32, mark_is_it, mark_is_not, mark_is_cut}
use Rattle.image_records.specs.Told.{head_at, place_told}
use Rattle.image_records.proofs.Many.{many_first, many_none}
use Rattle.image_records.proofs.Records.{headed, head_fails, body_of}
use Rattle.image_records.proofs.Lengths.{image_length}
use Rattle.image_directory.specs.Behind.{ends, behind_right}
use Rattle.image_constants.specs.Earlier.{functions_in, is_got, earlier}
use Rattle.image_functions.proofs.One.{done, done_same}
use Rattle.image_functions.specs.Judged.{right_all, count_all, functions_done}
use Rattle.image.specs.Counted.{counted_in}
use Rattle.image.proofs.Sound.{BytesOf, sound_is, counts_agree}

-- ## A function's code is bytes

module _ (s : List ℕ) (bytes : (i : ℕ) → get_or s i 0 < 256) where
  read_bytes : (n at next : ℕ) (ops : List ℕ) → many n (u8 s ImageRefused) at ≡ got ops next → (i : ℕ) → get_or ops i 0 < 256
  read_bytes zero at next ops e i =
      let z : ◌≡◌ {A = Read (List ℕ)} (got [] at) (got ops next) = sym (many_none (u8 s ImageRefused) 0 at refl) ∙ e in
      let q : [] ≡ ops = cc in
      rw (← q) (omega arith)
  read_bytes (suc n) at next ops e i =
      let f = many_first (u8 s ImageRefused) n at next ops e in
      let v = found s (a_u8 s) f.is in
      rw f.all (by f.others f.value (rw v.is (bytes at)) (λ j. read_bytes n f.next next f.others f.then j) i)
    where
      by : (l : List ℕ) (v : ℕ) → v < 256 → ((j : ℕ) → get_or l j 0 < 256) → (i : ℕ) → get_or (v ∷ l) i 0 < 256
      by l v h later zero = h
      by l v h later (suc i) = later i

  function_bytes : (at next : ℕ) (f : ObjectFunction) (h : answer.Option Header) → h ≡ head_at s at → read_function s at ≡ got f next → (i : ℕ) → get_or f.chunk.ops i 0 < 256
  function_bytes at next f None e r i =
      let g = head_fails s at e in
      absurd (let z : ◌≡◌ {A = Read ObjectFunction} (bad g.fault) (got f next) = sym g.is ∙ r in cc)
  function_bytes at next f (Some h) e r i =
      let b = headed s at h e in
      let o = body_of s b.name b.arity h.upvalues h.constants h.runs h.code (at + 17) f next (sym b.is ∙ r) in
      let q : f.chunk.ops ≡ o.ops = ap (λ (x : ObjectFunction). x.chunk.ops) o.is in
      rw q (read_bytes h.code o.start next o.ops o.ops_are i)

  pub bytes_of : (count at end : ℕ) (fs : List ObjectFunction) → many count (read_function s) at ≡ got fs end → BytesOf fs
  bytes_of zero at end fs e j f g i =
      let z : ◌≡◌ {A = Read (List ObjectFunction)} (got [] at) (got fs end) = sym (many_none (read_function s) 0 at refl) ∙ e in
      let q : [] ≡ fs = cc in
      absurd (let y : ◌≡◌ {A = Option ObjectFunction} none (some f) = ap (λ (l : List ObjectFunction). get_elem? l j) q ∙ g in let x : ◌≡◌ {A = ℕ} 0 1 = cc in omega arith)
  bytes_of (suc count) at end fs e j f g i =
      let t = many_first (read_function s) count at end fs e in
      by t.others t.value (function_bytes at t.next t.value (head_at s at) refl t.is) (bytes_of count t.next end t.others t.then) j f
      (ap (λ (l : List ObjectFunction). get_elem? l j) (sym t.all) ∙ g) i
    where
      by : (l : List ObjectFunction) (v : ObjectFunction) → ((i : ℕ) → get_or v.chunk.ops i 0 < 256) → BytesOf l → BytesOf (v ∷ l)
      by l v h later zero f g i = let q : v ≡ f = cc in rw (← q) (h i)
      by l v h later (suc j) f g i = later j f g i

-- ## The header

unfoldable pub after : (image : List ℕ) → Read (List ObjectFunction) → Option (List ObjectFunction)
after image (bad fault) = none
after image (got fs end) = if behind_right image (got fs end) then (if sound fs then some fs else none) else none

module _ (s : List ℕ) where
  cut_mark : length s < 2 → image_of s ≡ none
  unfolding image_of read_image read_functions checked ◌>>=◌ ◌>>◌ go_on
  cut_mark h = rw (mark_is_cut s ImageRefused 0x494D 0 h) refl

  other_mark : 2 ≤ length s → (letters s 0 ≡ 0x494D → ⊥) → image_of s ≡ none
  unfolding image_of read_image read_functions checked ◌>>=◌ ◌>>◌ go_on
  other_mark h n = rw (mark_is_not s ImageRefused 0x494D 0 h n) refl

  cut_count : 2 ≤ length s → length s < 6 → letters s 0 ≡ 0x494D → image_of s ≡ none
  unfolding image_of read_image read_functions checked ◌>>=◌ ◌>>◌ go_on
  cut_count h l m = rw (mark_is_it s ImageRefused 0x494D 0 h m, (a_u32 s).short ImageRefused 2 l) refl

  no_room_by : (t u : Bool) → leb 2 (length s) ≡ t → eqb (letters s 0) 0x494D ≡ u → length s < 6 → image_of s ≡ none
  no_room_by true true e f h = cut_count (leb-true _ _ e) h (eqb-true _ _ f)
  no_room_by true false e f h = other_mark (leb-true _ _ e) (eqb-false _ _ f)
  no_room_by false u e f h = cut_mark (leb-false _ _ e)

  pub no_room : length s < 6 → None ≡ counted_in (image_of s)
  unfolding counted_in
  no_room h = sym (ap counted_in (no_room_by _ _ refl refl h))

  pub no_mark : 6 ≤ length s → (letters s 0 ≡ 0x494D → ⊥) → None ≡ counted_in (image_of s)
  unfolding image_of read_image read_functions checked ◌>>=◌ ◌>>◌ go_on counted_in
  no_mark h n = rw (mark_is_not s ImageRefused 0x494D 0 (omega arith) n) refl

  module _ (h : 6 ≤ length s) (m : letters s 0 ≡ 0x494D) (count : ℕ) (is-count : count ≡ word32 s 2) where
    pub no_functions : count ≡ 0 → None ≡ counted_in (image_of s)
    unfolding image_of read_image read_functions checked ◌>>=◌ ◌>>◌ go_on need counted_in
    no_functions z =
        let e : word32 s 2 ≡ 0 = sym is-count ∙ z in
        rw (mark_is_it s ImageRefused 0x494D 0 (omega arith) m, (a_u32 s).whole ImageRefused 2 h, e) refl

    after_is : (r : Read (List ObjectFunction))
        → checked (go_on r (λ functions. read_behind s functions >> (here >>= λ end. need (eqb end (length s)) ImageRefused >> return functions))) ≡ after s r
    unfolding checked after behind_right ends go_on here need return ◌>>=◌ ◌>>◌
    after_is (bad fault) = refl
    after_is (got fs end) = by (read_behind s fs end)
      where
        by_end : (t : Bool) (last : ℕ)
            → checked (go_on (need t ImageRefused last) (λ _. return fs)) ≡ (if t then (if sound fs then some fs else none) else none)
        by_end true last = refl
        by_end false last = refl

        by : (r : Read Unit)
            → checked (go_on r (λ _. here >>= λ last. need (eqb last (length s)) ImageRefused >> return fs))
            ≡ (if ends (length s) r then (if sound fs then some fs else none) else none)
        by (bad fault) = refl
        by (got u last) = by_end (eqb last (length s)) last

    pub image_is : 0 < count → image_of s ≡ after s (many count (read_function s) 6)
    unfolding image_of read_image read_functions ◌>>=◌ ◌>>◌ go_on need
    image_is p =
        let l : 0 < word32 s 2 = omega arith in
        rw (mark_is_it s ImageRefused 0x494D 0 (omega arith) m, (a_u32 s).whole ImageRefused 2 h, lt-ltb _ _ l, is-count)
        (after_is (many (word32 s 2) (read_function s) 6))

    -- ## The answer
    module _ (p : 0 < count) (bytes : (i : ℕ) → get_or s i 0 < 256) where
      abbrev functions : Read (List ObjectFunction)
      functions = many count (read_function s) 6

      counted_as : (r : Read (List ObjectFunction)) → functions ≡ r → counted_in (image_of s) ≡ counted_in (after s r)
      counted_as r e = ap counted_in (image_is p ∙ ap (after s) e)

      wrong_by : (r : Read (List ObjectFunction)) → functions ≡ r → None ≡ functions_done 0 [] r → counted_in (after s r) ≡ None
      unfolding functions_done after counted_in
      wrong_by (bad fault) e f = refl
      wrong_by (got fs end) e f = by (behind_right s (got fs end)) (right_all [] fs) refl f
        where
          by : (t u : Bool) → right_all [] fs ≡ u → None ≡ (if u then done (0 + count_all [] fs) end else None)
              → counted_in (if t then (if sound fs then some fs else none) else none) ≡ None
          by t true g f = absurd (cc)
          by true false g f = rw (sound_is fs (bytes_of s bytes count 6 end fs e), g) refl
          by false false g f = refl

      pub answered_wrong : None ≡ functions_done 0 [] functions → None ≡ counted_in (image_of s)
      answered_wrong f = sym (counted_as functions refl ∙ wrong_by functions refl f)

      pub record ReadAll (n end : ℕ) : Type 0 where
        pub fs : List ObjectFunction
        pub are : functions ≡ got fs end
        pub fine : right_all [] fs ≡ true
        pub number : n ≡ count_all [] fs

      all_by : (n end : ℕ) (r : Read (List ObjectFunction)) → functions ≡ r → done n end ≡ functions_done 0 [] r → ReadAll n end
      unfolding functions_done
      all_by n end (bad fault) e f = absurd (cc)
      all_by n end (got fs last) e f = by (right_all [] fs) refl f
        where
          by : (t : Bool) → right_all [] fs ≡ t → done n end ≡ (if t then done (0 + count_all [] fs) last else None) → ReadAll n end
          by false g f = absurd (cc)
          by true g f =
              let q = done_same n end (0 + count_all [] fs) last f in
              record { fs = fs; are = e ∙ ap (got fs) (sym q.1); fine = g; number = omega arith }

      module _ (n end : ℕ) (f : done n end ≡ functions_done 0 [] functions) where
        abbrev a : ReadAll n end
        a = all_by n end functions refl f

        pub ends_at : Some end ≡ place_told functions
        unfolding place_told
        ends_at = sym (ap place_told a.are)

        pub answered_behind : false ≡ behind_right s functions → None ≡ counted_in (image_of s)
        unfolding after counted_in
        answered_behind b =
            let c : behind_right s (got a.fs end) ≡ false = ap (behind_right s) (sym a.are) ∙ sym b in
            sym (counted_as (got a.fs end) a.are ∙ rw c refl)

        pub all_read : is_got functions ≡ true
        unfolding is_got
        all_read = ap is_got a.are

        earlier_is : earlier s count ≡ a.fs
        unfolding earlier functions_in
        earlier_is = ap functions_in a.are

        sound_by : (b : Bool) → b ≡ named_once (earlier s count) → sound a.fs ≡ b
        sound_by b e =
            sound_is a.fs (bytes_of s bytes count 6 end a.fs a.are) ∙
            ap (λ (t : Bool). t && named_once a.fs) a.fine ∙ sym (e ∙ ap named_once earlier_is)

        module _ (d : true ≡ behind_right s functions) where
          answer_by : (b : Bool) → b ≡ named_once (earlier s count) → counted_in (image_of s) ≡ counted_in (if b then some a.fs else none)
          unfolding after
          answer_by b e =
              let c : behind_right s (got a.fs end) ≡ true = ap (behind_right s) (sym a.are) ∙ sym d in
              counted_as (got a.fs end) a.are ∙ rw (c, sound_by b e) refl

          pub answered_unnamed : false ≡ named_once (earlier s count) → None ≡ counted_in (image_of s)
          unfolding counted_in
          answered_unnamed e = sym (answer_by false e)

          pub answered_yes : true ≡ named_once (earlier s count) → done n end ≡ counted_in (image_of s)
          unfolding counted_in
          answered_yes e =
              let c = counts_agree [] a.fs (bytes_of s bytes count 6 end a.fs a.are) a.fine in
              let l = image_length s count end a.fs a.are in
              ap (λ (m : ℕ). done m end) (a.number ∙ c) ∙ ap (done (instruction_count a.fs a.fs)) l ∙ sym (answer_by true e)

-- ## The answer's form

verdict_no : (o : Option (List ObjectFunction)) → None ≡ counted_in o → refusal ImageRefused ≡ verdict o
unfolding counted_in verdict
verdict_no none e = refl
verdict_no (some fs) e = absurd (cc)

verdict_yes : (n end : ℕ) (o : Option (List ObjectFunction)) → done n end ≡ counted_in o → accepted n ≡ verdict o
unfolding counted_in verdict
verdict_yes n end none e = absurd (cc)
verdict_yes n end (some fs) e = ap accepted (done_same n end _ _ e).0

module _ (s : List ℕ) where
  pub check_no : None ≡ counted_in (image_of s) → refusal ImageRefused ≡ check s
  unfolding check
  check_no e = verdict_no (image_of s) e

  pub check_yes : (n end : ℕ) → done n end ≡ counted_in (image_of s) → accepted n ≡ check s
  unfolding check
  check_yes n end e = verdict_yes n end (image_of s) e
