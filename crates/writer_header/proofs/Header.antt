-- The header is written over six zeros: what the output holds before and after.
use mathlib.Core.Path.{◌≡◌, refl, sym, ap, ap₂, ◌∙◌}
use mathlib.Core.List.{List, ◌∷◌, ◌++◌, []}
use Prim.Native.Nat.{ℕ, zero, suc, ◌+◌, ◌-◌, ◌≤◌}
use native.Mathlib.Omega.{arith}
use lib.ListN.{length, replicate, take, drop}
use Rattle.rules.specs.Base.{le}
use Rattle.writer_bytes.specs.Put.{padded, Put}
use Rattle.writer_header.specs.Header.{Headed}
use Rattle.writer_bytes.proofs.Padding.{put_then}

-- what stands first, where there is room for it
padded_behind : (hs bs : List ℕ) (n room : ℕ) → n ≡ length hs + room → padded n (hs ++ bs) ≡ hs ++ padded room bs
unfolding padded
padded_behind [] bs n room e = ap (λ (k : ℕ). padded k bs) (plain n room e)
  where
    plain : (n room : ℕ) → n ≡ 0 + room → n ≡ room
    plain n room e = omega arith
padded_behind (h ∷ hs) bs zero room e = absurd (omega arith)
padded_behind (h ∷ hs) bs (suc n) room e = ap (λ (l : List ℕ). h ∷ l) (padded_behind hs bs n room (omega arith))

-- the six bytes
abbrev head : (count : ℕ) → List ℕ
head count = (0x49 ∷ 0x4D ∷ []) ++ le 4 count

head_padded : (count : ℕ) → padded 6 (head count) ≡ head count
unfolding padded le
head_padded count = refl

head_long : (count room : ℕ) → 6 ≤ room → room ≡ length (head count) + (room - 6)
unfolding le
head_long count room h = omega arith

module _ (count : ℕ) (out : List ℕ) (room : 6 ≤ length out) {mid part : List ℕ} {m r : ℕ} (p : Put (take 6 out) mid 0 (0x49 ∷ 0x4D ∷ []) m) (q : Put mid part m (le 4 count) r) where
  part_is : (bs : List ℕ) → out ≡ replicate 6 0 ++ padded (length out - 6) bs → part ≡ head count
  unfolding padded
  part_is bs e =
      let first : take 6 out ≡ replicate 6 0 = ap (take 6) e in
      (put_then p q).holds [] refl (first ∙ ap (λ (k : ℕ). padded k []) (sym (ap length first))) ∙ ap (λ (k : ℕ). padded k (head count)) (ap length first) ∙ head_padded count

  pub headed : length (part ++ drop 6 out) ≡ length out → Headed count out (part ++ drop 6 out)
  headed size =
      record {
        size = size;
        holds =
            λ bs h.
            let e : out ≡ replicate 6 0 ++ padded (length out - 6) bs = h ∙ padded_behind (replicate 6 0) bs (length out) (length out - 6) (omega arith) in
            ap₂ (λ (a b : List ℕ). a ++ b) (part_is bs e) (ap (drop 6) e) ∙ sym (padded_behind (head count) bs (length out) (length out - 6) (head_long count (length out) room));
      }
