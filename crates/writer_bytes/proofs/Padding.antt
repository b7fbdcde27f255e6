-- Bytes put one after the other: a byte, and what two calls come to.
use mathlib.Core.Path.{◌≡◌, refl, sym, ap, ap₂, ◌∙◌, subst}
use mathlib.Core.Bool.{Bool, true}
use mathlib.Core.List.{List, ◌∷◌, ◌++◌, append_assoc, append-nil, []}
use Prim.Native.Nat.{ℕ, zero, suc, ◌+◌, ◌-◌, ◌/◌, ◌%◌, ◌≤◌, ◌<◌}
use native.Mathlib.Omega.{arith}
use borrow.Rule.Slice.PartMut.{put_mid}
use lib.ListN.{length, length-append, length-set, set, replicate}
use lib.Dec.{leb}
use Rattle.rules.proofs.Numbers.{le_length}
use Rattle.rules.specs.Base.{le}
use Rattle.rules.specs.Image.{join}
use borrow.Author.Tests.{leb-true}
use Rattle.std.specs.Prelude.{drop, take, map, get_or}
use Rattle.std.proofs.lemmas.List.{drop_more, drop_all, drop-replicate, take_at, drop_at, length-drop, length-take-le}
use Rattle.writer_bytes.specs.Put.{padded, Put}

pub length_padded : (room : ℕ) (bs : List ℕ) → length (padded room bs) ≡ room
unfolding padded
length_padded zero bs = refl
length_padded (suc room) [] = ap suc (length_padded room [])
length_padded (suc room) (b ∷ bs) = ap suc (length_padded room bs)

-- a byte behind the last, where there is room
set_padded : (room : ℕ) (bs : List ℕ) (b : ℕ) → length bs < room → set (padded room bs) (length bs) b ≡ padded room (bs ++ (b ∷ []))
unfolding padded
set_padded zero bs b l = absurd (omega arith)
set_padded (suc room) [] b l = refl
set_padded (suc room) (x ∷ bs) b l = ap (λ (r : List ℕ). x ∷ r) (set_padded room bs b (omega arith))

-- where there is none, what comes after is not there
full_padded : (room : ℕ) (bs more : List ℕ) → room ≤ length bs → padded room (bs ++ more) ≡ padded room bs
unfolding padded
full_padded zero bs more l = refl
full_padded (suc room) [] more l = absurd (omega arith)
full_padded (suc room) (x ∷ bs) more l = ap (λ (r : List ℕ). x ∷ r) (full_padded room bs more (omega arith))

zeros_padded : (room : ℕ) → padded room [] ≡ replicate room 0
unfolding padded
zeros_padded zero = refl
zeros_padded (suc room) = ap (λ (r : List ℕ). 0 ∷ r) (zeros_padded room)

-- where all the bytes fit
pub whole_padded : (room : ℕ) (bs : List ℕ) → length bs ≤ room → padded room bs ≡ bs ++ replicate (room - length bs) 0
unfolding padded
whole_padded zero [] l = refl
whole_padded zero (x ∷ bs) l = absurd (omega arith)
whole_padded (suc room) [] l = zeros_padded (suc room) ∙ ap (λ (k : ℕ). replicate k 0) (no_less (suc room))
  where
    no_less : (a : ℕ) → a ≡ a - 0
    no_less a = omega arith
whole_padded (suc room) (x ∷ bs) l =
    ap (λ (r : List ℕ). x ∷ r) (whole_padded room bs (omega arith) ∙ ap (λ (k : ℕ). bs ++ replicate k 0) (fewer room (length bs)))
  where
    fewer : (a b : ℕ) → a - b ≡ suc a - suc b
    fewer a b = omega arith

pub put_byte : (out out' : List ℕ) (at b r : ℕ) → at < length out → out' ≡ set out at b → r ≡ at + 1 → Put out out' at (b ∷ []) r
put_byte out out' at b r l e n =
    record {
      next = n;
      size = ap length e ∙ length-set out at b;
      holds =
          λ bs k h.
          e ∙ ap (λ (o : List ℕ). set o at b) h ∙ ap (λ (i : ℕ). set (padded (length out) bs) i b) (sym k)
          ∙ set_padded (length out) bs b (omega arith);
    }

pub put_none : (out : List ℕ) (at b r : ℕ) → length out ≤ at → r ≡ at + 1 → Put out out at (b ∷ []) r
put_none out at b r l n =
    record { next = n; size = refl; holds = λ bs k h. h ∙ sym (full_padded (length out) bs (b ∷ []) (omega arith)) }

-- all of it at once, where there is room
pub put_part : (out code part : List ℕ) (at k : ℕ) → at + length code ≤ length out → part ≡ code → k ≡ length code → Put out (put_mid at k out part) at code (at + length code)
put_part out code part at k room e n =
    record {
      next = refl;
      size =
          omega (
            arith,
            length-append (take at out) (part ++ drop k (drop at out)),
            length-append part (drop k (drop at out)),
            length-take-le at out (omega (arith, room)),
            length-drop k (drop at out),
            length-drop at out,
            ap length e,
            n,
          );
      holds =
          λ bs l h.
          let zeros : ℕ = length out - length bs in
          let whole : out ≡ bs ++ replicate zeros 0 = h ∙ whole_padded (length out) bs (omega (arith, l)) in
          let front : take at out ≡ bs = ap (take at) whole ∙ take_at bs (replicate zeros 0) at l in
          let rest : drop k (drop at out) ≡ replicate (zeros - k) 0 =
          ap (λ (o : List ℕ). drop k (drop at o)) whole ∙ ap (drop k) (drop_at bs (replicate zeros 0) at l) ∙ drop-replicate k zeros 0 in
          let long : length (bs ++ code) ≡ at + length code = omega (arith, length-append bs code, l) in
          ap₂ (λ (a b : List ℕ). a ++ (part ++ b)) front rest ∙ ap (λ (p : List ℕ). bs ++ (p ++ replicate (zeros - k) 0)) e
          ∙ sym (append_assoc bs code (replicate (zeros - k) 0))
          ∙ ap (λ (m : ℕ). (bs ++ code) ++ replicate m 0) (omega (arith, long, l, n))
          ∙ sym (whole_padded (length out) (bs ++ code) (omega (arith, long)));
    }

-- one call after the other
pub put_then : {out mid out' : List ℕ} {at m r : ℕ} {a b : List ℕ} → Put out mid at a m → Put mid out' m b r → Put out out' at (a ++ b) r
put_then {out} {mid} {out'} {at} {m} {r} {a} {b} p q =
    record {
      next = omega (arith, p.next, q.next, length-append a b);
      size = q.size ∙ p.size;
      holds =
          λ bs k h.
          let here : mid ≡ padded (length mid) (bs ++ a) = p.holds bs k h ∙ ap (λ (n : ℕ). padded n (bs ++ a)) (sym p.size) in
          let l : length (bs ++ a) ≡ m = omega (arith, length-append bs a, p.next) in
          q.holds (bs ++ a) l here ∙ ap (λ (n : ℕ). padded n ((bs ++ a) ++ b)) p.size ∙ ap (padded (length out)) (append_assoc bs a b);
    }

-- what a test of room has shown where it holds
pub has_room : (at size : ℕ) (out : List ℕ) {r : Bool} → r ≡ leb (at + size) (length out) → r ≡ true → at + size ≤ length out
has_room at size out e h = leb-true (at + size) (length out) (sym e ∙ h)

-- ## A loop: of `all`, what is left is still to be put

pub record Putting (out out' : List ℕ) (at next : ℕ) (all left : List ℕ) : Type 0 where
  pub done : List ℕ
  pub is : all ≡ done ++ left
  pub put : Put out out' at done next

pub putting_step : {out mid out' : List ℕ} {at m next : ℕ} {all more left now : List ℕ} → Putting out mid at m all now → now ≡ more ++ left →
    Put mid out' m more next → Putting out out' at next all left
putting_step {all = all} {more = more} {left = left} p e q =
    record {
      done = p.done ++ more;
      is = p.is ∙ ap (λ (l : List ℕ). p.done ++ l) e ∙ sym (append_assoc p.done more left);
      put = put_then p.put q;
    }

pub putting_end : {out out' : List ℕ} {at next : ℕ} {all left : List ℕ} → Putting out out' at next all left → left ≡ [] → Put out out' at all next
putting_end {out} {out'} {at} {next} {all} p e =
    subst (λ (l : List ℕ). Put out out' at l next) (sym (p.is ∙ ap (λ (l : List ℕ). p.done ++ l) e ∙ append-nil p.done)) p.put

-- ## What is left of each kind

pub le_more : (left fewer m : ℕ) → 0 < left → fewer ≡ left - 1 → le left m ≡ (m % 256 ∷ []) ++ le fewer (m / 256)
unfolding le
le_more zero fewer m l e = absurd (omega arith)
le_more (suc left) fewer m l e = let z : left ≡ fewer = omega (arith, e) in ap (λ (k : ℕ). m % 256 ∷ le k (m / 256)) z

pub le_none : (left m : ℕ) → left ≡ 0 → le left m ≡ []
unfolding le
le_none left m e = rw e

-- the bytes from `i` on, and the records of what stands from `i` on
pub bytes_more : (bs : List ℕ) (i : ℕ) → i < length bs → drop i bs ≡ (get_or bs i 0 ∷ []) ++ drop (i + 1) bs
bytes_more bs i l = drop_more bs i 0 l

pub join_more : {A : Type 0} (f : A → List ℕ) (g : ℕ → A) (xs : List ℕ) (i : ℕ) → i < length xs
    → join f (map g (drop i xs)) ≡ f (g (get_or xs i 0)) ++ join f (map g (drop (i + 1) xs))
unfolding join
join_more f g xs i l = ap (λ (ys : List ℕ). join f (map g ys)) (drop_more xs i 0 l)

pub join_none : {A : Type 0} (f : A → List ℕ) (g : ℕ → A) (xs : List ℕ) (i : ℕ) → length xs ≤ i → join f (map g (drop i xs)) ≡ []
unfolding join
join_none f g xs i l = ap (λ (ys : List ℕ). join f (map g ys)) (drop_all i xs l)

-- where a number ends
pub le_next : {out out' : List ℕ} {at r : ℕ} (count n : ℕ) → Put out out' at (le count n) r → r ≡ at + count
le_next {at = at} count n p = p.next ∙ ap (λ (k : ℕ). at + k) (le_length count n)
