-- A class up to its methods: a law for each way out of the function that opens it.
use Rattle.steps.specs.Why.{Step}
use mathlib.Core.Path.{◌≡◌, refl, subst}
use mathlib.Core.Bool.{Bool, true, false}
use mathlib.Core.Option.{Option, some}
use mathlib.Core.List.{List, ◌∷◌}
use Prim.Native.Nat.{ℕ, ◌+◌}
use lib.Dec.{ltb}
use Rattle.rules.specs.Base.{lookup}
use Rattle.std.specs.Prelude.{if◌then◌else◌, Ok, Err}
use Rattle.rules.specs.declared.Span.{Span}
use Rattle.rules.specs.Tree.{Superclass}
use Rattle.rules.specs.Reader.{got}
use Rattle.rules.specs.TreeFile.{flags, maybe, read_superclass}
use Rattle.rules.specs.Op as op
use Rattle.rules.specs.Chunk.{CS}
use Rattle.rules.specs.Compiler.{ok, ◌>>◌, done, is_some, push_class_ctx, emit_op_constant, get_variable, define_name, compile_superclass}
use Rattle.fields.specs.Words.{word8, word16}
use Rattle.steps.specs.View.{Mem, mem, Rest, view, top_class, Fit, steady, Gave, Did}
use Rattle.steps.proofs.Steps.{went, valued, next_at, halt, then_on, did_seq, chosen, otherwise, turn}
use Rattle.steps.proofs.Monad.{nothing, on_to}
use Rattle.stmt_output_laws.specs.Parts.{open_class}
use Rattle.stmt_heads.specs.Classes.{inner, entering, scoping, opening, ClassHead, InnerClass, SuperOpened, ClassOpened}
use Rattle.stmt_heads.proofs.Heads.{no_count, a_count}
use Rattle.steps.proofs.Jumps.{ahead_none}
use Rattle.steps.specs.declared.Why.{Why}

-- ## The class is the innermost one: no code says so

top_is : (b : Bool) (classes : List Bool) → top_class (b ∷ classes) ≡ inner b
top_is true classes = refl
top_is false classes = refl

entered_view : (l : ℕ) (b : Bool) (rest : Rest) (now : Mem) → push_class_ctx b (view now l rest) ≡ ok tt (view now l ((entering b).rest rest))
unfolding push_class_ctx view
entered_view l b rest (mem t code spans) = refl

entered : {class limit l : ℕ} (b : Bool) {m : Mem} → Fit m l limit → Gave class limit l (entering b) (push_class_ctx b) tt m m
entered {l = l} b {m} fit =
    let a = ahead_none fit in
    record {
      comes = λ rest h. entered_view l b rest m;
      agrees = λ rest h. record { innermost = top_is b rest.classes; made = h.made };
      ahead = record { fit = a.fit; up = a.up; deep = a.deep; head = a.head; under = a.under; over = a.over; beyond = a.beyond };
    }

-- ## The class

module _ {class limit l : ℕ} (tree : List ℕ) (at : ℕ) (span : Span) (name : ℕ) (p : name ≡ word16 tree (at + 10)) {before : Mem} where
  open_by : {now : Mem} {r : Step}
      → ((d : ℕ) (has : Bool) (o : Option Superclass) (mid : ℕ) → lookup (word8 tree (at + 12)) flags ≡ some has → maybe has (read_superclass tree (word16 tree 2) d) (at + 15) ≡ got o mid
      → Did class limit l mid (opening (is_some o)) (open_class limit name o (ltb 0 (word16 tree (at + 13))) span) before now r)
      → ClassOpened class limit l tree at span before now r
  open_by {now} {r} f = record {
    did = λ d has o mid look one.
        subst (λ (j : ℕ). Did class limit l mid (opening (is_some o)) (open_class limit j o (ltb 0 (word16 tree (at + 13))) span) before now r) p (f d has o mid look one);
  }

  pub class_stop : {now : Mem} {r : Step} {n : ℕ} {x : Why} → Did class limit l n steady (emit_op_constant limit op.CLASS (CS name) span) before now r → r ≡
      Err x → ClassOpened class limit l tree at span before now r
  unfolding open_class
  class_stop a q = open_by (λ d has o mid look one. halt _ a q)

  module _ {mid : Mem} {r : Step} {n v : ℕ} (a : Did class limit l n steady (emit_op_constant limit op.CLASS (CS name) span) before mid r) (q : r ≡ Ok v) where
    pub class_stop_2 : {now : Mem} {r' : Step} {n' : ℕ} {x : Why} → Did class limit l n' steady (define_name limit name span) mid now r' → r' ≡ Err x →
        ClassOpened class limit l tree at span before now r'
    unfolding open_class
    class_stop_2 b h = open_by (λ d has o mid look one. turn (λ d. refl) (λ c. refl) (λ x. refl) (λ h. h) (then_on _ a q (halt _ b h)))

    module _ {late : Mem} {r' : Step} {n' v' : ℕ} (b : Did class limit l n' steady (define_name limit name span) mid late r') (h : r' ≡ Ok v') where
      open_on : {now : Mem} {r'' : Step}
          → ((d : ℕ) (has : Bool) (o : Option Superclass) (k : ℕ) → lookup (word8 tree (at + 12)) flags ≡ some has → maybe has (read_superclass tree (word16 tree 2) d) (at + 15) ≡ got o k
          → Did (inner (is_some o)) limit l k (scoping (is_some o))
          (compile_superclass limit name o span >> (if ltb 0 (word16 tree (at + 13)) then get_variable limit name span else done)) late now r'')
          → ClassOpened class limit l tree at span before now r''
      unfolding open_class
      open_on f = open_by (λ d has o k look one.
          turn (λ d. refl) (λ c. refl) (λ x. refl) (λ h. h)
          (then_on _ a q (then_on _ b h (did_seq (entered (is_some o) (went b h).ahead.fit) _ (f d has o k look one)))))

      pub class_stop_3 : {now : Mem} {r'' : Step} {x : Why} → SuperOpened limit l name tree at span late now r'' → r'' ≡ Err x → ClassOpened class limit l tree at span before now r''
      class_stop_3 c w = open_on (λ d has o k look one. halt _ (c.did d has o k look one) w)

      pub class_bare : {now : Mem} {r'' : Step} {first : ℕ} → SuperOpened limit l name tree at span late now r'' → r'' ≡ Ok first → word16 tree (at + 13) ≡ 0
          → ClassOpened class limit l tree at span before now (Ok first)
      class_bare c w z = open_on (λ d has o k look one.
          let x = c.did d has o k look one in
          then_on _ x w (otherwise _ _ _ (no_count _ z) (next_at (nothing (went x w).ahead.fit) (valued x w))))

      pub class_full : {last now : Mem} {r'' r''' : Step} {first i : ℕ} → SuperOpened limit l name tree at span late last r'' → r'' ≡ Ok first → (word16 tree (at + 13) ≡ 0 → ⊥)
          → InnerClass tree at i → Did i limit l first steady (get_variable limit name span) last now r''' → ClassOpened class limit l tree at span before now r'''
      class_full {last} {now} {r''' = r'''} {first = first} c w z i y = open_on (λ d has o k look one.
          let x = c.did d has o k look one in
          then_on _ x w (chosen _ _ _ (a_count _ z)
          (on_to (valued x w) (subst (λ (j : ℕ). Did j limit l first steady (get_variable limit name span) last now r''') (i.is d has o k look one) y))))

-- ## What the next step needs

pub opened_fit : {limit l name v : ℕ} (tree : List ℕ) (at : ℕ) {span : Span} {before now : Mem} {r : Step} → ClassHead tree at → SuperOpened limit l name tree
    at span before now r → r ≡ Ok v → Fit now l limit
opened_fit tree at h c q = (went (c.did h.depth h.has h.super h.mid h.look h.one) q).ahead.fit
