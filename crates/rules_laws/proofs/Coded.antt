-- In every image that the compiler gives, each function's code is whole instructions in a row, with what each one's operands name, and every
-- jump lands on a border between two or on the code's end.
use mathlib.Core.Path.{◌≡◌, refl, sym, ap, ◌∙◌, subst⁻¹}
use mathlib.Core.Bool.{Bool, true, false, ◌&&◌, ◌||◌}
use mathlib.Core.Option.{Option, none, some}
use mathlib.Core.List.{List, ◌∷◌, ◌++◌, append_assoc, append-nil, []}
use Prim.Native.Nat.{ℕ, ◌+◌, ◌-◌, ◌*◌, ◌/◌, ◌%◌, ◌≤◌, ◌<◌}
use native.Mathlib.Omega.{arith}
use lib.ListN.{length, length-append, get_elem?, get_or}
use lib.Dec.{T, ltb, eqb, ltb→lt, lt→ltb}
use Rattle.rules.specs.declared.Span.{Span}
use Rattle.rules.specs.Tree.{Stmts}
use Rattle.rules.specs.Op as op
use Rattle.rules.specs.Op.{Operands, Plain, Byte, Captured, Value, Text, Invoke, Ahead, Back, Closure, operands_of}
use Rattle.rules.specs.Chunk.{Chunk, Constant, CN, CS, CF, same_constant, write_u8, ObjectFunction}
use Rattle.rules.specs.Division.{pairs_fit}
use Rattle.rules.specs.Checker.{names}
use Rattle.rules.specs.Compiler as c
use Rattle.rules_laws.proofs.Keeps.{After}
use Rattle.rules_laws.proofs.Layer as layer
use Rattle.rules_laws.proofs.Tests.{both, left, right}
use Rattle.rules_laws.proofs.Facts.{Fact, All, all_map, at_left, ChunkLaws, Form, plain, byte, captured_at, value_at, text_at, invoke, ahead, back, closure, Still, Grown, as_before, one_more, write_all, with_constants, jump_bytes, loop_bytes, IsValue, a_number, a_string, all_end, all_at, at_end}
use Rattle.rules_laws.proofs.Pieces.{Piece, code, Border, end, under, Waiting, here, below, patch, code_patch, border_patch, Good, Fine, emitted, patched, first, waits, good_more, good_wait, among_swap, waiting_patch, border_le}
use Rattle.rules.proofs.Computes as computes

-- ## What an operand names stays where more is put behind

pairs_more : (m n : ℕ) → m ≤ n → (bs : List ℕ) → T (pairs_fit m bs) → T (pairs_fit n bs)
unfolding pairs_fit
pairs_more m n l [] t = tt
pairs_more m n l (b ∷ []) t = t
pairs_more m n l (b ∷ idx ∷ bs) t =
    both (eqb b 1 || (eqb b 0 && ltb idx n)) (pairs_fit n bs) (one (eqb b 1) (eqb b 0) (left (eqb b 1 || (eqb b 0 && ltb idx m)) (pairs_fit m bs) t))
    (pairs_more m n l bs (right (eqb b 1 || (eqb b 0 && ltb idx m)) (pairs_fit m bs) t))
  where
    one : (p q : Bool) → T (p || (q && ltb idx m)) → T (p || (q && ltb idx n))
    one true q t = tt
    one false true t = lt→ltb idx n (omega (arith, ltb→lt idx m t))
    one false false t = t

abbrev More : {A : Type 0} → List A → List A → Type 0
More {A} xs ys = (i : ℕ) (x : A) → get_elem? xs i ≡ some x → get_elem? ys i ≡ some x

form_more : {fs gs : List ObjectFunction} {cs ds : List Constant} {m n : ℕ} {kind : Operands} {bs : List ℕ} → More fs gs → More cs ds → m ≤ n →
    Form fs cs m kind bs → Form gs ds n kind bs
form_more f g l plain = plain
form_more f g l (byte b) = byte b
form_more f g l (captured_at {i = i} h b) = captured_at {i = i} (omega arith) b
form_more f g l (value_at e v) = value_at (g _ _ e) v
form_more f g l (text_at e) = text_at (g _ _ e)
form_more f g l (invoke e b) = invoke (g _ _ e) b
form_more f g l ahead = ahead
form_more f g l back = back
form_more {m = m} {n = n} f g l (closure {pairs = ps} e d s t) = closure (g _ _ e) (f _ _ d) s (pairs_more m n l ps t)

more_same : {A : Type 0} (xs : List A) → More xs xs
more_same xs i x e = e

more_grown : {Q : Constant → Type 0} {cs ds : List Constant} → Grown Q cs ds → More cs ds
more_grown as_before i x e = e
more_grown {cs = cs} (one_more v q p l) i x e = at_left cs (v ∷ []) i x e

-- a known opcode, and behind it what its kind asks for
pub record Formed (fs : List ObjectFunction) (cs : List Constant) (n : ℕ) (p : Piece) : Type 0 where
  pub kind : Operands
  pub known : operands_of p.opcode ≡ some kind
  pub form : Form fs cs n kind p.operands

formed_more : (fs gs : List ObjectFunction) (cs ds : List Constant) (m n : ℕ) → More fs gs → More cs ds → m ≤ n → (ps : List Piece) →
    All (Formed fs cs m) ps → All (Formed gs ds n) ps
formed_more fs gs cs ds m n f g l ps h =
    all_map (Formed fs cs m) (Formed gs ds n) (λ p x. record { kind = x.kind; known = x.known; form = form_more f g l x.form }) ps h

formed_patch : (fs : List ObjectFunction) (cs : List Constant) (m : ℕ) {ps : List Piece} {at : ℕ} (w : Waiting ps at) (n : ℕ) →
    All (Formed fs cs m) ps → All (Formed fs cs m) (patch w n)
unfolding patch
formed_patch fs cs m (here k e) n h = (record { kind = Ahead; known = k; form = ahead }, h.1)
formed_patch fs cs m (below w) n h = (h.0, formed_patch fs cs m w n h.1)

-- ## Functions that constants name are finished, and there is a closure for each such constant

abbrev pub Earlier : ℕ → Constant → Type 0
Earlier m (CN _) = Unit {0}
Earlier m (CS _) = Unit {0}
Earlier m (CF number) = number < m

earlier_more : (m n : ℕ) → m ≤ n → (v : Constant) → Earlier m v → Earlier n v
earlier_more m n l (CN _) h = tt
earlier_more m n l (CS _) h = tt
earlier_more m n l (CF _) h = omega arith

value_earlier : (m : ℕ) {v : Constant} → IsValue v → Earlier m v
value_earlier m a_number = tt
value_earlier m a_string = tt

earlier_grown : (m : ℕ) {Q : Constant → Type 0} {cs ds : List Constant} → ((v : Constant) → Q v → Earlier m v) → Grown Q cs ds → All (Earlier m) cs → All (Earlier m) ds
earlier_grown m f as_before h = h
earlier_grown m {cs = cs} f (one_more v q e l) h = all_end (Earlier m) cs v h (f v q)

pub names_end : (number : ℕ) (cs : List Constant) (v : Constant) → names number (cs ++ (v ∷ [])) ≡ names number cs + names number (v ∷ [])
unfolding names
names_end number [] v = omega arith
names_end number (x ∷ cs) v = omega (arith, names_end number cs v)

value_names : (number : ℕ) {v : Constant} → IsValue v → names number (v ∷ []) ≡ 0
unfolding names same_constant
value_names number a_number = refl
value_names number a_string = refl

pub names_grown : (number : ℕ) {cs ds : List Constant} → Grown IsValue cs ds → names number ds ≡ names number cs
names_grown number as_before = refl
names_grown number {cs = cs} (one_more v q e l) = omega (arith, names_end number cs v, value_names number q)

abbrev as_list : {A : Type 0} → Option A → List A
as_list none = []
as_list (some x) = x ∷ []

-- how often an instruction makes a closure of a function
unfoldable pub naming : List Constant → (number : ℕ) → Operands → (bytes : List ℕ) → ℕ
naming constants number Plain bytes = 0
naming constants number Byte bytes = 0
naming constants number Captured bytes = 0
naming constants number Value bytes = 0
naming constants number Text bytes = 0
naming constants number Invoke bytes = 0
naming constants number Ahead bytes = 0
naming constants number Back bytes = 0
naming constants number Closure bytes = names number (as_list (get_elem? constants (get_or bytes 0 0)))

unfoldable pub closes_if : List Constant → ℕ → Option Operands → List ℕ → ℕ
closes_if cs number none bs = 0
closes_if cs number (some kind) bs = naming cs number kind bs

unfoldable pub closings : List Constant → ℕ → List Piece → ℕ
closings cs number [] = 0
closings cs number (p ∷ ps) = closes_if cs number (operands_of p.opcode) p.operands + closings cs number ps

-- a closure's constant stays where it is
closes_more : (fs : List ObjectFunction) (cs ds : List Constant) (n : ℕ) {kind : Operands} {bs : List ℕ} (number : ℕ) → More cs ds → Form fs cs n kind bs →
    naming ds number kind bs ≡ naming cs number kind bs
unfolding naming
closes_more fs cs ds n number g plain = refl
closes_more fs cs ds n number g (byte b) = refl
closes_more fs cs ds n number g (captured_at h b) = refl
closes_more fs cs ds n number g (value_at e v) = refl
closes_more fs cs ds n number g (text_at e) = refl
closes_more fs cs ds n number g (invoke e b) = refl
closes_more fs cs ds n number g ahead = refl
closes_more fs cs ds n number g back = refl
closes_more fs cs ds n number g (closure e there s t) = rw (e, g _ _ e)

closings_more : (fs : List ObjectFunction) (cs ds : List Constant) (n number : ℕ) → More cs ds → (ps : List Piece) → All (Formed fs cs n) ps →
    closings ds number ps ≡ closings cs number ps
unfolding closings closes_if
closings_more fs cs ds n number g [] h = refl
closings_more fs cs ds n number g (p ∷ ps) h =
    let e : closes_if ds number (operands_of p.opcode) p.operands ≡ closes_if cs number (operands_of p.opcode) p.operands =
    rw h.0.known (closes_more fs cs ds n number g h.0.form) in
    omega (arith, e, closings_more fs cs ds n number g ps h.1)

closings_patch : (cs : List Constant) (number : ℕ) {ps : List Piece} {at : ℕ} (w : Waiting ps at) (m : ℕ) → closings cs number (patch w m) ≡ closings cs number ps
unfolding patch closings closes_if naming
closings_patch cs number (here k e) m = rw k
closings_patch cs number (below w) m = omega (arith, closings_patch cs number w m)

still_closes : (cs : List Constant) (number : ℕ) (kind : Operands) → Still kind → (bs : List ℕ) → naming cs number kind bs ≡ 0
unfolding naming
still_closes cs number Plain q bs = refl
still_closes cs number Byte q bs = refl
still_closes cs number Captured q bs = refl
still_closes cs number Ahead q bs = elim q [ ]
still_closes cs number Back q bs = elim q [ ]
still_closes cs number Closure q bs = elim q [ ]
still_closes cs number Value q bs = refl
still_closes cs number Text q bs = refl
still_closes cs number Invoke q bs = refl

-- ## One function: `waiting`, where jumps wait, and `backs`, where loops start

pub record Known : Type 0 where
  pub waiting : List ℕ
  pub backs : List ℕ

abbrev pub none_known : Known
none_known = record { waiting = []; backs = [] }

abbrev pub waits_at : ℕ → Known → Known
waits_at at h = record { waiting = at ∷ h.waiting; backs = h.backs }

abbrev pub backs_at : ℕ → Known → Known
backs_at at h = record { waiting = h.waiting; backs = at ∷ h.backs }

pub record Code (h : Known) (fs : List ObjectFunction) (cs : List Constant) (n : ℕ) (ops : List ℕ) : Type 0 where
  pub pieces : List Piece
  pub is : ops ≡ code pieces
  pub formed : All (Formed fs cs n) pieces
  pub good : Good h.waiting pieces pieces
  pub wait : All (Waiting pieces) h.waiting
  pub back : All (Border pieces) h.backs

-- and: its constants name finished functions, each as often as a closure is made of it
pub record Closed (h : Known) (fs : List ObjectFunction) (cs : List Constant) (n : ℕ) (ops : List ℕ) : Type 0 where
  pub coding : Code h fs cs n ops
  pub earlier : All (Earlier (length fs)) cs
  pub closed : (number : ℕ) → closings cs number coding.pieces ≡ names number cs

module _ (h : Known) (fs : List ObjectFunction) (cs : List Constant) (n : ℕ) (ops : List ℕ) where
  -- a whole instruction more
  more : (kind : Operands) (b : ℕ) (bs : List ℕ) (x : Code h fs cs n ops) → operands_of b ≡ some kind → Form fs cs n kind bs →
      Fine (some kind) h.waiting (record { opcode = b; operands = bs } ∷ x.pieces) (length (code x.pieces)) bs →
      All (Earlier (length fs)) cs → ((number : ℕ) → naming cs number kind bs + closings cs number x.pieces ≡ names number cs) →
      Closed h fs cs n (ops ++ (b ∷ bs))
  unfolding code closings closes_if
  more kind b bs x e form fine earlier closed =
      let p : Piece = record { opcode = b; operands = bs } in
      record {
        coding =
            record {
              pieces = p ∷ x.pieces;
              is = ap (λ (l : List ℕ). l ++ (b ∷ bs)) x.is;
              formed = (record { kind = kind; known = e; form = form }, x.formed);
              good =
                  emitted h.waiting p x.pieces
                  (subst⁻¹ (λ (k : Option Operands). Fine k h.waiting (p ∷ x.pieces) (length (code x.pieces)) bs) e fine) x.good;
              wait = all_map (Waiting x.pieces) (Waiting (p ∷ x.pieces)) (λ _ w. below w) h.waiting x.wait;
              back = all_map (Border x.pieces) (Border (p ∷ x.pieces)) (λ _ w. under w) h.backs x.back;
            };
        earlier = earlier;
        closed = λ number. subst⁻¹ (λ (k : Option Operands). closes_if cs number k bs + closings cs number x.pieces ≡ names number cs) e (closed number);
      }

  -- a jump more, which waits
  more_jump : (b : ℕ) → operands_of b ≡ some Ahead → Closed h fs cs n ops → Closed (waits_at (length ops + 1) h) fs cs n (ops ++ jump_bytes b)
  unfolding code closings closes_if naming
  more_jump b kind y =
      let x : Code h fs cs n ops = y.coding in
      let p : Piece = record { opcode = b; operands = 255 ∷ 255 ∷ [] } in
      let at_is : length ops + 1 ≡ length (code x.pieces) + 1 = omega (arith, ap length x.is) in
      record {
        coding =
            record {
              pieces = p ∷ x.pieces;
              is = ap (λ (l : List ℕ). l ++ (b ∷ 255 ∷ 255 ∷ [])) x.is;
              formed = (record { kind = Ahead; known = kind; form = ahead }, x.formed);
              good =
                  emitted ((length ops + 1) ∷ h.waiting) p x.pieces
                  (subst⁻¹ (λ (kd : Option Operands). Fine kd ((length ops + 1) ∷ h.waiting) (p ∷ x.pieces) (length (code x.pieces)) (255 ∷ 255 ∷ [])) kind
                  (waits (first (sym at_is))))
                  (good_more (length ops + 1) h.waiting x.pieces x.pieces x.good);
              wait = (here kind at_is, all_map (Waiting x.pieces) (Waiting (p ∷ x.pieces)) (λ _ w. below w) h.waiting x.wait);
              back = all_map (Border x.pieces) (Border (p ∷ x.pieces)) (λ _ w. under w) h.backs x.back;
            };
        earlier = y.earlier;
        closed =
            λ number. subst⁻¹ (λ (k : Option Operands). closes_if cs number k (255 ∷ 255 ∷ []) + closings cs number x.pieces ≡ names number cs) kind (omega (arith, y.closed number));
      }

  -- the jump that waits at `at` is patched to the code's end
  less_jump : (at : ℕ) → Closed (waits_at at h) fs cs n ops → Closed h fs cs n (c.set_u16 ops at (length ops - 2 - at))
  less_jump at y =
      let x : Code (waits_at at h) fs cs n ops = y.coding in
      let m : ℕ = length (code x.pieces) - 2 - at in
      let w : Waiting x.pieces at = x.wait.0 in
      record {
        coding =
            record {
              pieces = patch w m;
              is = ap (λ (l : List ℕ). c.set_u16 l at (length l - 2 - at)) x.is ∙ sym (code_patch w m);
              formed = formed_patch fs cs n w m x.formed;
              good = patched w h.waiting x.good;
              wait = all_map (Waiting x.pieces) (Waiting (patch w m)) (λ _ v. waiting_patch w m v) h.waiting x.wait.1;
              back = all_map (Border x.pieces) (Border (patch w m)) (λ _ b. border_patch w m b) h.backs x.back;
            };
        earlier = y.earlier;
        closed = λ number. closings_patch cs number w m ∙ y.closed number;
      }

  -- a loop goes back to a border
  back_loop : (at : ℕ) → Closed (backs_at at h) fs cs n ops → Closed h fs cs n (ops ++ loop_bytes (length ops) at)
  unfolding computes.op naming
  back_loop at y =
      let x : Code (backs_at at h) fs cs n ops = y.coding in
      let m : ℕ = length ops + 3 - at in
      let same : length ops ≡ length (code x.pieces) = ap length x.is in
      let in_code : at ≤ length (code x.pieces) = border_le x.back.0 in
      let target : length (code x.pieces) + 3 - (m % 256 + 256 * (m / 256)) ≡ at = omega arith in
      more Back op.LOOP (m % 256 ∷ m / 256 ∷ [])
      (record { pieces = x.pieces; is = x.is; formed = x.formed; good = x.good; wait = x.wait; back = x.back.1 })
      refl back
      (record {
        reach = omega arith;
        earlier = omega arith;
        border = subst⁻¹ (λ (t : ℕ). Border (record { opcode = op.LOOP; operands = m % 256 ∷ m / 256 ∷ [] } ∷ x.pieces) t) target (under x.back.0);
      })
      y.earlier (λ number. omega (arith, y.closed number))

still : (kind : Operands) → Still kind → (W : List ℕ) (all : List Piece) (start : ℕ) (bs : List ℕ) → Fine (some kind) W all start bs
still Plain q W all start bs = tt
still Byte q W all start bs = tt
still Captured q W all start bs = tt
still Ahead q W all start bs = elim q [ ]
still Back q W all start bs = elim q [ ]
still Closure q W all start bs = elim q [ ]
still Value q W all start bs = tt
still Text q W all start bs = tt
still Invoke q W all start bs = tt

-- ## The chunk

write_ops : (ch : Chunk) (bs : List ℕ) (span : Span) → (write_all ch bs span).ops ≡ ch.ops ++ bs
unfolding write_u8
write_ops ch [] span = sym (append-nil ch.ops)
write_ops ch (b ∷ bs) span = write_ops (write_u8 ch b span) bs span ∙ append_assoc ch.ops (b ∷ []) bs

pub write_constants : (ch : Chunk) (bs : List ℕ) (span : Span) → (write_all ch bs span).constants ≡ ch.constants
unfolding write_u8
write_constants ch [] span = refl
write_constants ch (b ∷ bs) span = write_constants (write_u8 ch b span) bs span

abbrev pub Coded : Known → Fact
Coded h opened fs n ch = Closed h fs ch.constants n ch.ops

-- bytes more at the end of a chunk
wrote : (h : Known) (fs : List ObjectFunction) (n : ℕ) (ch : Chunk) (bs : List ℕ) (span : Span) → Closed h fs ch.constants n (ch.ops ++ bs) → Coded h [] fs n (write_all ch bs span)
wrote h fs n ch bs span x = rw (write_ops ch bs span, write_constants ch bs span) x

widen : (h : Known) (fs gs : List ObjectFunction) (cs ds : List Constant) (m n : ℕ) (ops : List ℕ) → More fs gs → More cs ds → m ≤ n → Code h fs cs m ops → Code h gs ds n ops
widen h fs gs cs ds m n ops f g l x =
    record { pieces = x.pieces; is = x.is; formed = formed_more fs gs cs ds m n f g l x.pieces x.formed; good = x.good; wait = x.wait; back = x.back }

-- more functions, or more captured variables
widen_closed : (h : Known) (fs gs : List ObjectFunction) (cs : List Constant) (m n : ℕ) (ops : List ℕ) → More fs gs → length fs ≤ length gs → m ≤ n → Closed h fs cs m ops → Closed h gs cs n ops
unfolding widen
widen_closed h fs gs cs m n ops f k l y =
    record {
      coding = widen h fs gs cs cs m n ops f (more_same cs) l y.coding;
      earlier = all_map (Earlier (length fs)) (Earlier (length gs)) (earlier_more (length fs) (length gs) k) cs y.earlier;
      closed = y.closed;
    }

-- an instruction with its constant
writes : (kind : Operands) → Still kind → (k : Known) (fs : List ObjectFunction) (n : ℕ) (ops : List ℕ) (cs ds : List Constant) (b : ℕ) (bs : List ℕ) →
    operands_of b ≡ some kind → Grown IsValue cs ds → Form fs ds n kind bs → Closed k fs cs n ops → Closed k fs ds n (ops ++ (b ∷ bs))
unfolding widen
writes kind st k fs n ops cs ds b bs e g f y =
    more k fs ds n ops kind b bs (widen k fs fs cs ds n n ops (more_same fs) (more_grown g) (omega arith) y.coding) e f (still kind st _ _ _ bs)
    (earlier_grown (length fs) (λ v q. value_earlier (length fs) q) g y.earlier)
    (λ number. omega (arith, still_closes ds number kind st bs, closings_more fs cs ds n number (more_grown g) y.coding.pieces y.coding.formed, y.closed number, names_grown number g))

-- a closure: its constant is new, for the ones before it name functions that were finished before
closes : (k : Known) (fs gs : List ObjectFunction) (f : ObjectFunction) (n : ℕ) (ops : List ℕ) (cs ds : List Constant) (place : ℕ) (ps : List ℕ) →
    Grown (λ v. v ≡ CF (length (fs ++ gs))) cs ds → get_elem? ds place ≡ some (CF (length (fs ++ gs))) → length ps ≡ 2 * f.upvalue_count → T (pairs_fit n ps) →
    Closed k fs cs n ops → Closed k ((fs ++ gs) ++ (f ∷ [])) ds n (ops ++ (op.CLOSURE ∷ place ∷ ps))
unfolding computes.op widen naming
closes k fs gs f n ops cs ds place ps as_before e s t y =
    absurd (omega (arith, length-append fs gs, all_at (Earlier (length fs)) cs place (CF (length (fs ++ gs))) y.earlier e))
closes k fs gs f n ops cs ds place ps (one_more v q p l) e s t y =
    more k all (cs ++ (v ∷ [])) n ops Closure op.CLOSURE (place ∷ ps)
    (widen k fs all cs (cs ++ (v ∷ [])) n n ops more_functions (at_left cs (v ∷ [])) (omega arith) y.coding) refl
    (closure {pairs = ps} e (at_end (fs ++ gs) f) s t) tt
    (all_end (Earlier (length all)) cs v (all_map (Earlier (length fs)) (Earlier (length all)) (earlier_more (length fs) (length all) (omega (arith, longer))) cs y.earlier)
    (subst⁻¹ (Earlier (length all)) q (omega (arith, longer))))
    counts
  where
    all : List ObjectFunction
    all = (fs ++ gs) ++ (f ∷ [])

    longer : (length all ≡ length (fs ++ gs) + 1) × (length (fs ++ gs) ≡ length fs + length gs)
    longer = (length-append (fs ++ gs) (f ∷ []), length-append fs gs)

    more_functions : More fs all
    more_functions i x e = at_left (fs ++ gs) (f ∷ []) i x (at_left fs gs i x e)

    this_one : (number : ℕ) → naming (cs ++ (v ∷ [])) number Closure (place ∷ ps) ≡ names number (v ∷ [])
    this_one number = rw (e, q)

    counts : (number : ℕ) → naming (cs ++ (v ∷ [])) number Closure (place ∷ ps) + closings (cs ++ (v ∷ [])) number y.coding.pieces ≡ names number (cs ++ (v ∷ []))
    counts number =
        omega (
          arith,
          this_one number,
          closings_more fs cs (cs ++ (v ∷ [])) n number (at_left cs (v ∷ [])) y.coding.pieces y.coding.formed,
          y.closed number,
          names_end number cs v,
        )

nothing : (fs : List ObjectFunction) → Closed none_known fs [] 0 []
unfolding code closings names
nothing fs = record { coding = record { pieces = []; is = refl; formed = tt; good = tt; wait = tt; back = tt }; earlier = tt; closed = λ number. refl }

laws : (limit : ℕ) → ChunkLaws limit Known Coded none_known waits_at backs_at
laws limit =
    record {
      empty = λ fs. nothing fs;
      captures = λ k opened fs m n ch l b x. widen_closed k fs fs ch.constants m n ch.ops (more_same fs) (omega arith) l x;
      writes = λ kind st k opened fs n ch cs b bs span e g f r x. wrote k fs n (with_constants ch cs) (b ∷ bs) span (writes kind st k fs n ch.ops ch.constants cs b bs e g f x);
      closes =
          λ k opened fs gs f n ch place cs ps span w e t b r i x. wrote k _ n (with_constants ch cs) (op.CLOSURE ∷ place ∷ ps) span
          (closes k fs gs f n ch.ops ch.constants cs place ps w.grown w.there e t x);
      jumps = λ k opened fs n ch b span e r x. wrote _ fs n ch (jump_bytes b) span (more_jump k fs ch.constants n ch.ops b e x);
      patches = λ k opened fs n ch at l x. less_jump k fs ch.constants n ch.ops at x;
      marks =
          λ k opened fs n ch y. let x = y.coding in record {
            coding =
                record { pieces = x.pieces; is = x.is; formed = x.formed; good = x.good; wait = x.wait; back = (end (ap length x.is), x.back) };
            earlier = y.earlier;
            closed = y.closed;
          };
      loops = λ k opened fs n ch at span l r x. wrote k fs n ch (loop_bytes (length ch.ops) at) span (back_loop k fs ch.constants n ch.ops at x);
      swap_waits =
          λ i j k opened fs n ch y. let x = y.coding in record {
            coding =
                record {
                  pieces = x.pieces;
                  is = x.is;
                  formed = x.formed;
                  good = good_wait x.pieces (i ∷ j ∷ k.waiting) (j ∷ i ∷ k.waiting) (among_swap i j k.waiting) x.pieces x.good;
                  wait = (x.wait.1.0, (x.wait.0, x.wait.1.1));
                  back = x.back;
                };
            earlier = y.earlier;
            closed = y.closed;
          };
      swap_backs = λ i j k opened fs n ch x. x;
    }

finishes : (opened fs gs : List ObjectFunction) (n : ℕ) (ch : Chunk) → Coded none_known opened fs n ch → Coded none_known opened (fs ++ gs) n ch
finishes opened fs gs n ch x = widen_closed none_known fs (fs ++ gs) ch.constants n n ch.ops (at_left fs gs) (omega (arith, length-append fs gs)) (omega arith) x

-- every function of the image
pub coded : (limit : ℕ) (stmts : Stmts) →
    After (λ fs _. All (λ (f : ObjectFunction). List ObjectFunction × Coded none_known [] fs f.upvalue_count f.chunk) fs) (c.compile_functions limit stmts)
coded limit stmts = layer.functions Known Coded none_known waits_at backs_at limit (laws limit) finishes stmts

-- and, seen with those that were finished before it
pub in_order : (limit : ℕ) (stmts : Stmts) → After (λ fs _. layer.Finished Known Coded none_known [] fs) (c.compile_functions limit stmts)
in_order limit stmts = layer.ordered Known Coded none_known waits_at backs_at limit (laws limit) stmts
