-- Code as pieces, the newest first: what a jump's target and a waiting jump are, and that emitting and patching keep every jump landing.
-- A target is a border: the code's length as it was before some piece, or its end.
use mathlib.Core.Path.{◌≡◌, sym, ap, ◌∙◌, subst⁻¹}
use mathlib.Core.List.{List, ◌∷◌, ◌++◌, []}
use mathlib.Core.Option.{Option, none, some}
use Prim.Native.Nat.{ℕ, ◌+◌, ◌-◌, ◌*◌, ◌/◌, ◌%◌, ◌≤◌, ◌<◌}
use native.Mathlib.Omega.{arith}
use lib.ListN.{length, set, length-append, length-set}
use native.Mathlib.Nat.{zero-add, suc-add}
use lib.Seq.{set-append_left}
use Rattle.rules.specs.Op.{Operands, Plain, Byte, Captured, Value, Text, Invoke, Ahead, Back, Closure, operands_of}
use Rattle.rules.specs.Compiler.{set_u16}
use Rattle.rules.specs.Division.{word}

pub record Piece : Type 0 where
  pub opcode : ℕ
  pub operands : List ℕ

abbrev pub bytes : Piece → List ℕ
bytes p = p.opcode ∷ p.operands

unfoldable pub code : List Piece → List ℕ
code [] = []
code (p ∷ ps) = code ps ++ bytes p

pub data Border : List Piece → ℕ → Type 0 where
  end : {ps : List Piece} {t : ℕ} → t ≡ length (code ps) → Border ps t
  under : {p : Piece} {ps : List Piece} {t : ℕ} → Border ps t → Border (p ∷ ps) t

-- a jump whose operand is at `at`
pub data Waiting : List Piece → ℕ → Type 0 where
  here : {opcode a b : ℕ} {ps : List Piece} {at : ℕ} → operands_of opcode ≡ some Ahead → at ≡ length (code ps) + 1 →
      Waiting (record { opcode = opcode; operands = a ∷ b ∷ [] } ∷ ps) at
  below : {p : Piece} {ps : List Piece} {at : ℕ} → Waiting ps at → Waiting (p ∷ ps) at

unfoldable pub patch : {ps : List Piece} {at : ℕ} → Waiting ps at → ℕ → List Piece
patch (here {opcode = o} {ps = ps} k e) n = record { opcode = o; operands = n % 256 ∷ n / 256 ∷ [] } ∷ ps
patch (below {p = p} w) n = p ∷ patch w n

set_right : (xs ys : List ℕ) (i v : ℕ) → set (xs ++ ys) (length xs + i) v ≡ xs ++ set ys i v
set_right [] ys i v = rw zero-add
set_right (x ∷ xs) ys i v = rw suc-add (ap (λ (l : List ℕ). x ∷ l) (set_right xs ys i v))

set_two : (xs : List ℕ) (o a b lo hi at : ℕ) → at ≡ length xs + 1 → set (set (xs ++ (o ∷ a ∷ b ∷ [])) at lo) (at + 1) hi ≡ xs ++ (o ∷ lo ∷ hi ∷ [])
set_two xs o a b lo hi at e =
    let e₂ : at + 1 ≡ length xs + 2 = omega arith in
    rw (e₂, e, set_right xs (o ∷ a ∷ b ∷ []) 1 lo, set_right xs (o ∷ lo ∷ b ∷ []) 2 hi)

-- the operand lies within the code
inside : {ps : List Piece} {at : ℕ} → Waiting ps at → at + 2 ≤ length (code ps)
unfolding code
inside (here {opcode = o} {a = a} {b = b} {ps = ps} k e) = omega (arith, length-append (code ps) (o ∷ a ∷ b ∷ []))
inside (below {p = p} {ps = ps} w) = omega (arith, inside w, length-append (code ps) (bytes p))

-- to patch the pieces is to set the two bytes
pub code_patch : {ps : List Piece} {at : ℕ} (w : Waiting ps at) (n : ℕ) → code (patch w n) ≡ set_u16 (code ps) at n
unfolding code patch set_u16
code_patch (here {opcode = o} {a = a} {b = b} {ps = ps} {at = at} k e) n = sym (set_two (code ps) o a b (n % 256) (n / 256) at e)
code_patch (below {p = p} {ps = ps} {at = at} w) n =
    let h₁ : at < length (code ps) = omega (arith, inside w) in
    let h₂ : at + 1 < length (set (code ps) at (n % 256)) = omega (arith, inside w, length-set (code ps) at (n % 256)) in
    rw (set-append_left (code ps) (bytes p) at (n % 256) h₁, set-append_left (set (code ps) at (n % 256)) (bytes p) (at + 1) (n / 256) h₂)
    (ap (λ (l : List ℕ). l ++ bytes p) (code_patch w n))

length_patch : {ps : List Piece} {at : ℕ} (w : Waiting ps at) (n : ℕ) → length (code (patch w n)) ≡ length (code ps)
unfolding set_u16
length_patch {ps} {at} w n = ap length (code_patch w n) ∙ simp length-set

pub border_patch : {ps : List Piece} {at t : ℕ} (w : Waiting ps at) (n : ℕ) → Border ps t → Border (patch w n) t
unfolding patch
border_patch (here k e') n (end e) = end (e ∙ sym (length_patch (here k e') n))
border_patch (here k e') n (under b) = under b
border_patch (below w) n (end e) = end (e ∙ sym (length_patch (below w) n))
border_patch (below w) n (under b) = under (border_patch w n b)

-- ## Every jump lands, or waits

pub data Among (n : ℕ) : List ℕ → Type 0 where
  first : {m : ℕ} {ms : List ℕ} → n ≡ m → Among n (m ∷ ms)
  later : {m : ℕ} {ms : List ℕ} → Among n ms → Among n (m ∷ ms)

pub data Lands (waiting : List ℕ) (all : List Piece) (at t : ℕ) : Type 0 where
  waits : Among at waiting → Lands waiting all at t
  lands : Border all t → Lands waiting all at t

-- from an instruction at `start`, back by `d` to a border that is not behind it
pub record Loops (all : List Piece) (start d : ℕ) : Type 0 where
  pub reach : d ≤ start + 3
  pub earlier : start + 3 - d ≤ start
  pub border : Border all (start + 3 - d)

-- an instruction of this kind, at `start` and with these operand bytes
abbrev pub Fine : Option Operands → List ℕ → List Piece → ℕ → List ℕ → Type 0
Fine none W all start bs = ⊥
Fine (some Plain) W all start bs = Unit {0}
Fine (some Byte) W all start bs = Unit {0}
Fine (some Captured) W all start bs = Unit {0}
Fine (some Value) W all start bs = Unit {0}
Fine (some Text) W all start bs = Unit {0}
Fine (some Invoke) W all start bs = Unit {0}
Fine (some Ahead) W all start bs = Lands W all (start + 1) (start + 3 + word bs)
Fine (some Back) W all start bs = Loops all start (word bs)
Fine (some Closure) W all start bs = Unit {0}

abbrev pub Good : List ℕ → List Piece → List Piece → Type 0
Good W all [] = Unit {0}
Good W all (p ∷ ps) = Fine (operands_of p.opcode) W all (length (code ps)) p.operands × Good W all ps

fine_map : {all all' : List Piece} → ((t : ℕ) → Border all t → Border all' t) → (k : Option Operands) (W : List ℕ) (start : ℕ) (bs : List ℕ) →
    Fine k W all start bs → Fine k W all' start bs
fine_map f none W start bs h = h
fine_map f (some Plain) W start bs h = h
fine_map f (some Byte) W start bs h = h
fine_map f (some Captured) W start bs h = h
fine_map f (some Value) W start bs h = h
fine_map f (some Text) W start bs h = h
fine_map f (some Invoke) W start bs h = h
fine_map f (some Ahead) W start bs (waits a) = waits a
fine_map f (some Ahead) W start bs (lands b) = lands (f _ b)
fine_map f (some Back) W start bs h = record { reach = h.reach; earlier = h.earlier; border = f _ h.border }
fine_map f (some Closure) W start bs h = h

good_map : {all all' : List Piece} → ((t : ℕ) → Border all t → Border all' t) → (W : List ℕ) (ps : List Piece) → Good W all ps → Good W all' ps
good_map f W [] h = tt
good_map f W (p ∷ ps) h = (fine_map f (operands_of p.opcode) W (length (code ps)) p.operands h.0, good_map f W ps h.1)

-- a jump that is not at `at` does not wait there
not_there : {m at : ℕ} {W : List ℕ} → ¬ (m ≡ at) → Among m (at ∷ W) → Among m W
not_there h (first e) = absurd (h e)
not_there h (later a) = a

fine_less : (all : List Piece) {at : ℕ} (k : Option Operands) (W : List ℕ) (start : ℕ) (bs : List ℕ) → ¬ (start + 1 ≡ at) →
    Fine k (at ∷ W) all start bs → Fine k W all start bs
fine_less all none W start bs n h = h
fine_less all (some Plain) W start bs n h = h
fine_less all (some Byte) W start bs n h = h
fine_less all (some Captured) W start bs n h = h
fine_less all (some Value) W start bs n h = h
fine_less all (some Text) W start bs n h = h
fine_less all (some Invoke) W start bs n h = h
fine_less all (some Ahead) W start bs n (waits a) = waits (not_there n a)
fine_less all (some Ahead) W start bs n (lands b) = lands b
fine_less all (some Back) W start bs n h = h
fine_less all (some Closure) W start bs n h = h

-- all of these lie before `at`
good_less : (all : List Piece) (at : ℕ) (W : List ℕ) (ps : List Piece) → length (code ps) < at → Good (at ∷ W) all ps → Good W all ps
unfolding code
good_less all at W [] l h = tt
good_less all at W (p ∷ ps) l h =
    let l' : length (code ps) + 1 < at = omega (arith, length-append (code ps) (bytes p)) in
    (fine_less all (operands_of p.opcode) W (length (code ps)) p.operands (omega arith) h.0, good_less all at W ps (omega arith) h.1)

-- where the target of a patched jump is a border, it lands
good_patch : (all : List Piece) {ps : List Piece} {at : ℕ} (w : Waiting ps at) (n : ℕ) (W : List ℕ) →
    Border all (at + 2 + n) → Good (at ∷ W) all ps → Good W all (patch w n)
unfolding patch
good_patch all (here {opcode = o} {ps = ps} {at = at} k e) n W b h = (fine, good_less all at W ps (omega arith) h.1)
  where
    target : length (code ps) + 3 + (n % 256 + 256 * (n / 256)) ≡ at + 2 + n
    target = omega arith

    ahead : Fine (some Ahead) W all (length (code ps)) (n % 256 ∷ n / 256 ∷ [])
    ahead = lands (subst⁻¹ (λ (t : ℕ). Border all t) target b)

    fine : Fine (operands_of o) W all (length (code ps)) (n % 256 ∷ n / 256 ∷ [])
    fine = subst⁻¹ (λ (kind : Option Operands). Fine kind W all (length (code ps)) (n % 256 ∷ n / 256 ∷ [])) k ahead
good_patch all (below {p = p} {ps = ps} {at = at} w) n W b h = (
  subst⁻¹ (λ (start : ℕ). Fine (operands_of p.opcode) W all start p.operands) (length_patch w n)
      (fine_less all (operands_of p.opcode) W (length (code ps)) p.operands (λ e. omega (arith, inside w)) h.0),
  good_patch all w n W b h.1,
)

-- ## The three laws that the compiler's steps rest on

-- an instruction that does not jump
pub emitted : (W : List ℕ) (p : Piece) (ps : List Piece) → Fine (operands_of p.opcode) W (p ∷ ps) (length (code ps)) p.operands →
    Good W ps ps → Good W (p ∷ ps) (p ∷ ps)
emitted W p ps f h = (f, good_map (λ t b. under b) W ps h)

-- a jump whose target is the code's end
pub patched : {ps : List Piece} {at : ℕ} (w : Waiting ps at) (W : List ℕ) →
    Good (at ∷ W) ps ps → Good W (patch w (length (code ps) - 2 - at)) (patch w (length (code ps) - 2 - at))
patched {ps} {at} w W h = good_patch (patch w n) w n W target (good_map (border_patch_at) (at ∷ W) ps h)
  where
    n : ℕ
    n = length (code ps) - 2 - at

    border_patch_at : (t : ℕ) → Border ps t → Border (patch w n) t
    border_patch_at t b = border_patch w n b

    target_is : at + 2 + n ≡ length (code (patch w n))
    target_is = omega (arith, inside w, length_patch w n)

    target : Border (patch w n) (at + 2 + n)
    target = end target_is

-- who waits in one list waits in the other
fine_wait : (all : List Piece) (W W' : List ℕ) → ((m : ℕ) → Among m W → Among m W') → (k : Option Operands) (start : ℕ) (bs : List ℕ) → Fine k W all start bs → Fine k W' all start bs
fine_wait all W W' f none start bs h = h
fine_wait all W W' f (some Plain) start bs h = h
fine_wait all W W' f (some Byte) start bs h = h
fine_wait all W W' f (some Captured) start bs h = h
fine_wait all W W' f (some Value) start bs h = h
fine_wait all W W' f (some Text) start bs h = h
fine_wait all W W' f (some Invoke) start bs h = h
fine_wait all W W' f (some Ahead) start bs (waits a) = waits (f _ a)
fine_wait all W W' f (some Ahead) start bs (lands b) = lands b
fine_wait all W W' f (some Back) start bs h = h
fine_wait all W W' f (some Closure) start bs h = h

pub good_wait : (all : List Piece) (W W' : List ℕ) → ((m : ℕ) → Among m W → Among m W') → (ps : List Piece) → Good W all ps → Good W' all ps
good_wait all W W' f [] h = tt
good_wait all W W' f (p ∷ ps) h =
    (fine_wait all W W' f (operands_of p.opcode) (length (code ps)) p.operands h.0, good_wait all W W' f ps h.1)

pub good_more : (at : ℕ) (W : List ℕ) (all ps : List Piece) → Good W all ps → Good (at ∷ W) all ps
good_more at W all ps h = good_wait all W (at ∷ W) (λ m a. later a) ps h

pub among_swap : (i j : ℕ) (W : List ℕ) (m : ℕ) → Among m (i ∷ j ∷ W) → Among m (j ∷ i ∷ W)
among_swap i j W m (first e) = later (first e)
among_swap i j W m (later (first e)) = first e
among_swap i j W m (later (later a)) = later (later a)

-- another jump goes on waiting
pub waiting_patch : {ps : List Piece} {at other : ℕ} (w : Waiting ps at) (n : ℕ) → Waiting ps other → Waiting (patch w n) other
unfolding patch
waiting_patch (here k e) n (here k' e') = here k' e'
waiting_patch (here k e) n (below v) = below v
waiting_patch (below w) n (here k' e') = here k' (e' ∙ ap (λ (m : ℕ). m + 1) (sym (length_patch w n)))
waiting_patch (below w) n (below v) = below (waiting_patch w n v)

pub border_le : {ps : List Piece} {t : ℕ} → Border ps t → t ≤ length (code ps)
unfolding code
border_le (end e) = omega arith
border_le (under {p = p} {ps = ps} b) = omega (arith, border_le b, length-append (code ps) (bytes p))
