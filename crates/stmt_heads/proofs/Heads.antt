-- What a class's flag says of its superclass, and so of the class that the methods are in; what a method is; the depth that `super` needs.
use Rattle.steps.specs.Why.{Step}
use mathlib.Core.Path.{◌≡◌, sym, ap, ap₂, subst, ◌∙◌}
use mathlib.Core.Bool.{Bool, true, false}
use mathlib.Core.Option.{Option, none, some}
use mathlib.Core.List.{List}
use mathlib.Core.Logic.{⊎_elim}
use Prim.Native.Nat.{ℕ, ◌+◌, ◌-◌, ◌*◌, ◌≤◌, ◌<◌}
use native.Mathlib.Omega.{arith}
use lib.ListN.{length, get_or}
use lib.Dec.{ltb}
use borrow.Author.Tests.{eq-eqb, ne_eqb, lt-ltb}
use Rattle.rules.specs.Base.{lookup}
use Rattle.std.specs.Prelude.{if◌then◌else◌, Ok}
use Rattle.rules.specs.Tree.{init_name, Superclass, Stmt}
use Rattle.rules.specs.Reader.{got}
use Rattle.rules.specs.TreeFile.{flags, maybe, read_superclass, read_stmt}
use Rattle.rules.specs.Compiler.{Compile, Initializer, Method, method_type, is_some}
use Rattle.fields.specs.Words.{word8, word16, letters, span_of}
use Rattle.state.specs.Kinds.{number_of}
use Rattle.state.specs.declared.Kind.TheVariants as decl
use Rattle.state.specs.Layout.{type_of, depth_place, level_words}
use Rattle.steps.specs.View.{mem, depth_at, steady, Did}
use Rattle.steps.proofs.Steps.{went}
use Rattle.tree_laws.proofs.Statements.{flag_on, flag_off, flag_is, maybe_yes, maybe_no, class_at, superclass_at}
use Rattle.stmt_heads.specs.Classes.{inner, ClassHead, superclass_of, InnerClass}
use Rattle.fields.specs.Marks as marks

-- where a class was read its head stands
pub head_at : (tree : List ℕ) (d funs at : ℕ) {s : Stmt} {n : ℕ} → letters tree at ≡ marks.SC → read_stmt tree (word16 tree 2) d funs at ≡ got s n → ClassHead tree at
head_at tree d funs at m r =
    let i = class_at tree (word16 tree 2) d funs at m r in
    record { bound = i.bound; depth = d - 1; has = i.has; look = i.look; super = i.super; mid = i.mid; one = i.one }

-- ## The superclass

seventeen : (at : ℕ) → at + 15 + 2 ≡ at + 17
seventeen at = omega arith

twenty_five : (at : ℕ) → at + 15 + 10 ≡ at + 25
twenty_five at = omega arith

twenty_seven : (at : ℕ) → at + 15 + 12 ≡ at + 27
twenty_seven at = omega arith

-- the superclass's record has that much room, and is read to its end
pub record WithSuper (tree : List ℕ) (at : ℕ) (super : Option Superclass) (mid : ℕ) : Type 0 where
  pub bound : at + 27 ≤ length tree
  pub is : super ≡ some (superclass_of tree at)
  pub end : mid ≡ at + 27

pub record WithoutSuper (at : ℕ) (super : Option Superclass) (mid : ℕ) : Type 0 where
  pub is : super ≡ none
  pub end : mid ≡ at + 15

module _ (tree : List ℕ) (at d : ℕ) {has : Bool} {super : Option Superclass} {mid : ℕ} (look : lookup (word8 tree (at + 12)) flags ≡ some has)
    (one : maybe has (read_superclass tree (word16 tree 2) d) (at + 15) ≡ got super mid) where
  pub with_super : word8 tree (at + 12) ≡ 1 → WithSuper tree at super mid
  with_super h =
      let q = ap (λ (b : Bool). maybe b (read_superclass tree (word16 tree 2) d) (at + 15)) (sym (flag_on _ look h)) ∙ one in
      let i = maybe_yes (read_superclass tree (word16 tree 2) d) (at + 15) q in
      let s = superclass_at tree (word16 tree 2) d (at + 15) i.one_is in
      record {
        bound = subst (λ (k : ℕ). k ≤ length tree) (twenty_seven at) s.bound;
        is = i.is ∙ ap some (s.is ∙ ap₂ (λ (j k : ℕ). record { span = span_of tree j; name = word16 tree k }) (seventeen at) (twenty_five at));
        end = s.end ∙ twenty_seven at;
      }

  pub without_super : (word8 tree (at + 12) ≡ 1 → ⊥) → WithoutSuper at super mid
  without_super h =
      let z = ⊎_elim (λ q. q) (λ q. absurd (h q)) (flag_is _ look) in
      let q = ap (λ (b : Bool). maybe b (read_superclass tree (word16 tree 2) d) (at + 15)) (sym (flag_off _ look z)) ∙ one in
      let i = maybe_no (read_superclass tree (word16 tree 2) d) (at + 15) q in
      record { is = i.0; end = i.1 }

  -- the scope of `super` is there to be ended
  pub some_depth : (x : ℕ) {y : ℕ} → y ≡ (if is_some super then x + 1 else x) → word8 tree (at + 12) ≡ 1 → 0 < y
  some_depth x {y} e h =
      let q = e ∙ ap (λ (o : Option Superclass). if is_some o then x + 1 else x) (with_super h).is in
      omega arith

pub head_room : (tree : List ℕ) (at : ℕ) → ClassHead tree at → word8 tree (at + 12) ≡ 1 → at + 27 ≤ length tree
head_room tree at h q = (with_super tree at h.depth h.look h.one q).bound

-- ## The class that the methods are in

pub inner_with : (tree : List ℕ) (at : ℕ) → word8 tree (at + 12) ≡ 1 → InnerClass tree at 2
inner_with tree at h = record { is = λ d has super mid look one. sym (ap (λ (o : Option Superclass). inner (is_some o)) (with_super tree at d look one h).is) }

pub inner_without : (tree : List ℕ) (at : ℕ) → (word8 tree (at + 12) ≡ 1 → ⊥) → InnerClass tree at 1
inner_without tree at h = record { is = λ d has super mid look one. sym (ap (λ (o : Option Superclass). inner (is_some o)) (without_super tree at d look one h).is) }

-- ## Whether there are methods

pub no_count : (n : ℕ) → n ≡ 0 → ltb 0 n ≡ false
no_count n h = ap (ltb 0) h

pub a_count : (n : ℕ) → (n ≡ 0 → ⊥) → ltb 0 n ≡ true
a_count n h = lt-ltb 0 n (omega arith)

-- ## What a method is

pub init_kind : (name : ℕ) → name ≡ init_name → type_of (number_of decl.Initializer) ≡ method_type name
unfolding type_of number_of
init_kind name h = sym (ap (λ (b : Bool). if b then Initializer else Method) (eq-eqb name init_name h))

pub other_kind : (name : ℕ) → (name ≡ init_name → ⊥) → type_of (number_of decl.Method) ≡ method_type name
unfolding type_of number_of
other_kind name h = sym (ap (λ (b : Bool). if b then Initializer else Method) (ne_eqb name init_name h))

pub some_kind : (0 < number_of decl.Initializer) × (0 < number_of decl.Method)
unfolding number_of
some_kind = (omega arith, omega arith)

-- ## The depth

-- what holds of the depth holds after a step that begins and ends no scope
pub depth_on : (P : ℕ → Type 0) {class limit l n v : ℕ} {m : Compile Unit} {t code spans t' code' spans' : List ℕ} {r : Step} → Did class limit l n steady m
    (mem t code spans) (mem t' code' spans') r → r ≡ Ok v
    → P (get_or t (l * level_words + depth_place) 0) → P (get_or t' (l * level_words + depth_place) 0)
unfolding depth_at
depth_on P d q h = subst P (sym (went d q).ahead.deep) h
