-- The ways of clashing, declare_local, define_local and drop_local, as facts of lists.
use Prim.Native.Nat.{ℕ, suc, ◌+◌, ◌*◌, ◌-◌, ◌/◌, ◌%◌, ◌≤◌, ◌<◌}
use native.Mathlib.Omega.{arith}
use native.Mathlib.Nat.{add-mod_right, add-div_right}
use mathlib.Core.Path.{◌≡◌, refl, sym, ap, ap₂, ◌∙◌}
use mathlib.Core.List.{List, ◌∷◌}
use mathlib.Core.Bool.{Bool, true, false}
use lib.ListN.{length, get_or, set}
use lib.Dec.{eqb, lit<}
use lib.Arith.{digits_div, digits_mod}
use lib.Seq.{get_or-set_same, get_or-set_other}
use borrow.Author.Tests.{eq-eqb, ne_eqb, lt-ltb, le-ltb}
use Rattle.rules.specs.Compiler.{Local, declared_here, initialize}
use Rattle.state.specs.Layout.{levels, stack, local_of, locals_of, Wf, depth_place, level_words, local_count_place}
use Rattle.state.specs.Meaning.{Kept, DeclaredAt, DefinedAt, Dropped}
use Rattle.state.specs.declared.Undeclared.TheVariants as undeclared
use Rattle.std.specs.Prelude.{Ok, Err, slice_range}
use Rattle.state_scan.proofs.Scan.{long, word}
use Rattle.state.proofs.Laws.{length_stack, stack_cong, push_pile, kept_set, kept_same, kept_then, if_true, if_false, wf_count, wf_plain}

module _ (f : ℕ → Local) (nm d i : ℕ) (pos : 0 < i) where
  peel : stack f i ≡ f (i - 1) ∷ stack f (i - 1)
  unfolding stack
  peel = let e : i ≡ suc (i - 1) = omega arith in ap (stack f) e

  pub clash_skip : d ≤ (f (i - 1)).depth → ((f (i - 1)).name ≡ nm → ⊥) → declared_here d nm (stack f i) ≡ declared_here d nm (stack f (i - 1))
  unfolding declared_here
  clash_skip h ne = ap (declared_here d nm) peel ∙ if_false _ _ _ (le-ltb _ _ h) ∙ if_false _ _ _ (ne_eqb _ _ ne)

  pub clash_stop : (f (i - 1)).depth < d → declared_here d nm (stack f i) ≡ false
  unfolding declared_here
  clash_stop h = ap (declared_here d nm) peel ∙ if_true _ _ _ (lt-ltb _ _ h)

  pub clash_hit : d ≤ (f (i - 1)).depth → (f (i - 1)).name ≡ nm → declared_here d nm (stack f i) ≡ true
  unfolding declared_here
  clash_hit h e = ap (declared_here d nm) peel ∙ if_false _ _ _ (le-ltb _ _ h) ∙ if_true _ _ _ (eq-eqb _ _ e)

pub clash_none : (f : ℕ → Local) (nm d i : ℕ) → i ≡ 0 → declared_here d nm (stack f i) ≡ false
unfolding declared_here stack
clash_none f nm d i e = ap (λ (k : ℕ). declared_here d nm (stack f k)) e

-- a new local's word
new_local : (nm d : ℕ) → nm < 65536 → local_of (d * 262144 + nm) ≡ record { name = nm; depth = d; is_initialized = false; is_captured = false }
new_local nm d h =
    let e : d * 262144 + nm ≡ d * 4 * 65536 + nm = omega arith in
    let a : (d * 262144 + nm) % 65536 ≡ nm = ap (λ (k : ℕ). k % 65536) e ∙ digits_mod (d * 4) h in
    let b : (d * 262144 + nm) / 65536 ≡ d * 2 * 2 + 0 = ap (λ (k : ℕ). k / 65536) e ∙ digits_div (d * 4) h ∙ omega arith in
    let r : (d * 262144 + nm) / 65536 % 2 ≡ 0 = ap (λ (k : ℕ). k % 2) b ∙ digits_mod (d * 2) (lit< tt) in
    let b' : (d * 262144 + nm) / 65536 / 2 ≡ d * 2 + 0 = ap (λ (k : ℕ). k / 2) b ∙ digits_div (d * 2) (lit< tt) ∙ omega arith in
    let c : (d * 262144 + nm) / 65536 / 2 % 2 ≡ 0 = ap (λ (k : ℕ). k % 2) b' ∙ digits_mod d (lit< tt) in
    let p : (d * 262144 + nm) / 65536 / 2 / 2 ≡ d = ap (λ (k : ℕ). k / 2) b' ∙ digits_div d (lit< tt) in
    λ i. record { name = a i; depth = p i; is_initialized = eqb (r i) 1; is_captured = eqb (c i) 1 }

module _ (t : List ℕ) (l nm : ℕ) (short : nm < 65536) (low : l < levels) (wf : Wf t) where
  abbrev locals : List ℕ
  locals = slice_range t (l * level_words) (l * level_words + get_or t (l * level_words + local_count_place) 0)

  room : l * level_words + get_or t (l * level_words + local_count_place) 0 ≤ length t
  room = omega (arith, wf.size, wf.few_locals l low)

  -- the locals that were scanned are the level's
  scanned : stack (λ i. local_of (get_or locals i 0)) (length locals) ≡ locals_of t l
  scanned = ap (stack (λ i. local_of (get_or locals i 0))) (long t (l * level_words) _ room) ∙ stack_cong _ _ _ (λ j h. ap local_of (word t (l * level_words) _ room j h))

  abbrev clash : Bool
  clash = declared_here (get_or t (l * level_words + depth_place) 0) nm (stack (λ i. local_of (get_or locals i 0)) (length locals))

  by_scan : (b : Bool) → clash ≡ b → declared_here (get_or t (l * level_words + depth_place) 0) nm (locals_of t l) ≡ b
  by_scan b e = ap (declared_here (get_or t (l * level_words + depth_place) 0) nm) (sym scanned) ∙ e

  pub already : clash ≡ true → DeclaredAt t t l nm (Err undeclared.Already)
  already e = record { does = by_scan true e; kept = kept_same _ _ t; wf = wf }

  module _ (e : clash ≡ false) where
    c : declared_here (get_or t (l * level_words + depth_place) 0) nm (locals_of t l) ≡ false
    c = by_scan false e

    pub full : 256 ≤ get_or t (l * level_words + local_count_place) 0 → DeclaredAt t t l nm (Err undeclared.Full)
    full m = record { does = (c, omega (arith, length_stack (λ i. local_of (get_or t (l * level_words + i) 0)) (get_or t (l * level_words + local_count_place) 0))); kept = kept_same _ _ t; wf = wf }

    pub pushed : get_or t (l * level_words + local_count_place) 0 < 256 → DeclaredAt t
        (set (set t (l * level_words + get_or t (l * level_words + local_count_place) 0) (get_or t (l * level_words + depth_place) 0 * 262144 + nm))
        (l * level_words + local_count_place) (get_or t (l * level_words + local_count_place) 0 + 1)) l nm (Ok tt)
    pushed m =
        let n : ℕ = get_or t (l * level_words + local_count_place) 0 in
        let d : ℕ = get_or t (l * level_words + depth_place) 0 in
        let t₁ : List ℕ = set t (l * level_words + n) (d * 262144 + nm) in
        let ls = push_pile local_of t (l * level_words) (l * level_words + local_count_place) (d * 262144 + nm) (omega arith) (omega (arith, wf.size)) ∙ ap
        (λ (x : Local). x ∷ locals_of t l) (new_local nm d short) in
        record {
          does = (c, omega (arith, length_stack (λ i. local_of (get_or t (l * level_words + i) 0)) (get_or t (l * level_words + local_count_place) 0)), ls);
          kept = kept_then _ _ t t₁ _ _ (kept_set _ _ t _ _ (omega arith) (omega arith)) (omega arith) (omega arith);
          wf = wf_count t₁ l local_count_place (n + 1) (omega arith) (λ e. omega arith) (omega arith) (wf_plain t l n _ (omega arith) (λ a b. omega arith) (λ e. omega arith) (λ e. omega arith) wf);
        }

-- an initialized local's word
ready_local : (w : ℕ) → w / 65536 % 2 ≡ 0 → local_of (w + 65536) ≡ record { name = (local_of w).name; depth = (local_of w).depth; is_initialized = true; is_captured = (local_of w).is_captured }
ready_local w z =
    let a : (w + 65536) % 65536 ≡ w % 65536 = add-mod_right w 65536 in
    let x : (w + 65536) / 65536 ≡ w / 65536 / 2 * 2 + 1 = add-div_right w (lit< tt) ∙ omega arith in
    let r : (w + 65536) / 65536 % 2 ≡ 1 = ap (λ (k : ℕ). k % 2) x ∙ digits_mod (w / 65536 / 2) (lit< tt) in
    let y : (w + 65536) / 65536 / 2 ≡ w / 65536 / 2 = ap (λ (k : ℕ). k / 2) x ∙ digits_div (w / 65536 / 2) (lit< tt) in
    λ i. record { name = a i; depth = y i / 2; is_initialized = eq-eqb _ _ r i; is_captured = eqb (y i % 2) 1 }

readied_local : (w : ℕ) → (w / 65536 % 2 ≡ 0 → ⊥) → local_of w ≡ record { name = (local_of w).name; depth = (local_of w).depth; is_initialized = true; is_captured = (local_of w).is_captured }
readied_local w z =
    let q : w / 65536 % 2 ≡ 1 = omega arith in
    λ i. record { name = w % 65536; depth = w / 65536 / 2 / 2; is_initialized = eq-eqb _ _ q i; is_captured = eqb (w / 65536 / 2 % 2) 1 }

module _ (t : List ℕ) (l : ℕ) (low : l < levels) (wf : Wf t) where
  pub define_none : get_or t (l * level_words + local_count_place) 0 ≡ 0 → DefinedAt t t l
  unfolding initialize stack
  define_none z =
      let f : ℕ → Local = λ i. local_of (get_or t (l * level_words + i) 0) in
      record {
        does = ap (stack f) z ∙ sym (ap (λ (k : ℕ). initialize (stack f k)) z);
        kept = kept_same _ _ t;
        wf = wf;
      }

  module _ (n : ℕ) (e : get_or t (l * level_words + local_count_place) 0 ≡ suc n) where
    -- the newest local's word may change to one that reads as initialized
    locals_ready : (t' : List ℕ) → get_or t' (l * level_words + local_count_place) 0 ≡ get_or t (l * level_words + local_count_place) 0 →
        ((i : ℕ) → i < n → get_or t' (l * level_words + i) 0 ≡ get_or t (l * level_words + i) 0)
        → local_of (get_or t' (l * level_words + n) 0) ≡ record {
          name = (local_of (get_or t (l * level_words + n) 0)).name;
          depth = (local_of (get_or t (l * level_words + n) 0)).depth;
          is_initialized = true;
          is_captured
              = (local_of (get_or t (l * level_words + n) 0)).is_captured;
        }
        → locals_of t' l ≡ initialize (locals_of t l)
    unfolding initialize stack
    locals_ready t' c old new = ap (stack _) (c ∙ e) ∙ ap₂ ◌∷◌ new (stack_cong _ _ _ (λ i h. ap local_of (old i h))) ∙ sym
        (ap (λ (k : ℕ). initialize (stack (λ i. local_of (get_or t (l * level_words + i) 0)) k)) e)

    pub define_again : (get_or t (l * level_words + n) 0 / 65536 % 2 ≡ 0 → ⊥) → DefinedAt t t l
    define_again z = record { does = locals_ready t refl (λ i h. refl) (readied_local _ z); kept = kept_same _ _ t; wf = wf }

    pub define_now : get_or t (l * level_words + n) 0 / 65536 % 2 ≡ 0 → DefinedAt t (set t (l * level_words + n) (get_or t (l * level_words + n) 0 + 65536)) l
    define_now z =
        let few = wf.few_locals l low in
        let inside : n < 256 = omega arith in
        let w : ℕ = get_or t (l * level_words + n) 0 in
        let t' : List ℕ = set t (l * level_words + n) (w + 65536) in
        let kp : Kept (l * level_words) (l * level_words + local_count_place) t t' = kept_set _ _ t _ _ (omega arith) (omega arith) in
        let new = ap local_of (get_or-set_same t (l * level_words + n) (w + 65536) 0 (omega (arith, wf.size))) ∙ ready_local w z in
        record {
          does = locals_ready t' (kp.above _ (omega arith)) (λ i h. get_or-set_other t (l * level_words + n) (l * level_words + i) (w + 65536) 0 (omega arith)) new;
          kept = kp;
          wf = wf_plain t l n _ (omega arith) (λ a b. omega arith) (λ e. omega arith) (λ e. omega arith) wf;
        }

    -- the count goes down by one
    pub dropped : Dropped t (set t (l * level_words + local_count_place) n) l (local_of (get_or t (l * level_words + n) 0))
    unfolding stack
    dropped =
        let few = wf.few_locals l low in
        let t' : List ℕ = set t (l * level_words + local_count_place) n in
        let c : get_or t' (l * level_words + local_count_place) 0 ≡ n = get_or-set_same t (l * level_words + local_count_place) n 0 (omega (arith, wf.size)) in
        record {
          does = ap (stack (λ i. local_of (get_or t (l * level_words + i) 0))) e
              ∙ ap (λ (xs : List Local). local_of (get_or t (l * level_words + n) 0) ∷ xs)
              (stack_cong _ _ n (λ i (h : i < n). ap local_of
              (sym (get_or-set_other t (l * level_words + local_count_place) (l * level_words + i) n 0 (omega arith)))) ∙ ap (stack (λ i. local_of (get_or t' (l * level_words + i) 0))) (sym c));
          kept = kept_set _ _ t _ _ (omega arith) (omega arith);
          fewer = omega arith;
          wf = wf_count t l local_count_place n (omega arith) (λ e. omega arith) (omega arith) wf;
        }
