-- Locals, scopes and contexts: from the state's contracts to the rules' steps.
use mathlib.Core.Path.{◌≡◌, refl, sym, ap, ap₂, subst, ◌∙◌}
use mathlib.Core.Bool.{Bool, true, false}
use mathlib.Core.List.{List, ◌∷◌, []}
use Prim.Native.Nat.{ℕ, zero, suc, ◌+◌, ◌*◌, ◌-◌, ◌≤◌, ◌<◌}
use native.Mathlib.Omega.{arith}
use lib.ListN.{length, get_or}
use lib.Dec.{ltb, eqb}
use borrow.Author.Tests.{lt-ltb, le-ltb}
use Rattle.std.specs.Prelude.{if◌then◌else◌, Result, Ok, Err, ⊤}
use Rattle.rules.specs.Op as op
use Rattle.rules.specs.declared.Span.{Span}
use Rattle.rules.specs.Compiler.{FunctionType, Local, CompilerCtx, new_ctx, Compiler, with_ctx, with_locals, with_scope_depth, Outcome, ok, Compile, go_on, ◌>>=◌, ◌>>◌, done, return, the, update_ctx, declare_local, define_local, is_global, begin_scope, begin_ctx, emit_u8, emit_op, pop_locals, end_scope, end_ctx, back_to}
use Rattle.rules.proofs.Slips as slips
use Rattle.rules.proofs.Slips.{enough_locals, already_declared}
use Rattle.state.specs.Layout.{levels, stack, local_of, locals_of, end_of_code, end_of_runs, ctx_at, type_of, start_of_code, start_of_runs, upvalues_of, parents_of, Wf, upvalues_place, depth_place, code_from_place, runs_from_place, name_place, level_words, local_count_place, word}
use Rattle.state.specs.Meaning.{DeclaredAs, DeclaredAt, DefinedAt, Moved, Began, Wrote, Dropped, Closed}
use Rattle.state.specs.declared.Undeclared.{Undeclared}
use Rattle.state.specs.declared.Undeclared.TheVariants.{Already, Full}
use Rattle.state.specs.declared.Full.{Full as No_room}
use Rattle.state.proofs.Laws.{kept_off, locals_same, ctx_same, parents_named}
use Rattle.steps.specs.View.{Mem, mem, t_of, Rest, view, Agrees, Fit, depth_at, Turn, steady, deeper, shallower, Gave, Refused, Changed, Tried, Asked, pops, Passing, PoppedAt, Entered, Left, finished}
use Rattle.steps.specs.declared.Why.{Why}
use Rattle.steps.proofs.Steps.{next, stop, refuses_in, ahead_then, gave_seq, refused_seq, gave_refused_seq}
use Rattle.steps.proofs.Views.{still_agrees, ahead_named, ahead_kept, view_locals, view_scope}
use Rattle.step_bytes.proofs.Bytes.{byte_gave, byte_full}
use Rattle.steps.proofs.Jumps.{ahead_none}
use Rattle.steps.specs.Why.{already_defined, code_full, too_many_locals, refusal_of, told}

-- ## The scope depth

-- the depth moves, by whatever turn says how
moved_gave : (e : Turn) (m : Compile Unit) (l d : ℕ) (t t' : List ℕ) → ((x : ℕ) → e.class x ≡ x) → ((x : Rest) → e.rest x ≡ x)
    → ((x : Compiler) → m x ≡ ok tt (with_ctx x (with_scope_depth x.ctx (e.depth x.ctx.scope_depth))))
    → Moved t t' l d → d ≡ e.depth (get_or t (l * level_words + depth_place) 0) → {class limit : ℕ} (code spans : List ℕ) → Fit (mem t code spans) l limit → Gave
    class limit l e m tt (mem t code spans) (mem t' code spans)
unfolding view ctx_at
moved_gave e m l d t t' ec er is w q {class} {limit} code spans fit =
    let low = fit.low in
    let kp = w.kept in
    record {
      comes = λ rest _. is (view (mem t code spans) l rest) ∙ ap (ok tt) (sym (view_scope t code spans t' l _ fit.wf low kp (w.does ∙ q) rest)) ∙ ap
          (λ (x : Rest). ok tt (view (mem t' code spans) l x)) (sym (er rest));
      agrees = λ rest h. subst (λ (c : ℕ). Agrees c (mem t' code spans) (e.rest rest)) (sym (ec class))
          (subst (λ (x : Rest). Agrees class (mem t' code spans) x) (sym (er rest)) (still_agrees (kp.above _ (omega arith)) h));
      ahead = ahead_named e t code spans t' l limit fit w.wf (w.does ∙ q) (λ o a b. kp.above _ (omega arith))
          (λ k o a b c. kept_off _ _ t t' _ kp (λ x y. omega arith)) (λ i a. kp.above _ (omega arith));
    }

pub scope_begun : (l d : ℕ) (t t' : List ℕ) → Moved t t' l d → d ≡ get_or t (l * level_words + depth_place) 0 + 1 → Changed l deeper begin_scope t t'
unfolding begin_scope update_ctx
scope_begun l d t t' w q = record { gives = λ code spans fit. moved_gave deeper begin_scope l d t t' (λ x. refl) (λ x. refl) (λ x. refl) w q code spans fit }

abbrev pub lower : Compile Unit
lower = update_ctx λ c. with_scope_depth c (c.scope_depth - 1)

pub lowered : (l d : ℕ) (t t' : List ℕ) → Moved t t' l d → d ≡ get_or t (l * level_words + depth_place) 0 - 1 → {class limit : ℕ} (code spans : List ℕ) → Fit
    (mem t code spans) l limit → Gave class limit l shallower lower tt (mem t code spans) (mem t' code spans)
unfolding update_ctx
lowered l d t t' w q code spans fit = moved_gave shallower lower l d t t' (λ x. refl) (λ x. refl) (λ x. refl) w q code spans fit

pub global_asked : (l : ℕ) (t : List ℕ) (r : Bool) → r ≡ eqb (get_or t (l * level_words + depth_place) 0) 0 → Asked l is_global r t
unfolding is_global the view ctx_at
global_asked l t r e = record { says = λ code spans. record { says = λ rest _. ap (λ (b : Bool). ok b (view (mem t code spans) l rest)) (sym e) } }

-- ## Locals

module _ (l n name : ℕ) (span : Span) (t t' : List ℕ) (r : Result ⊤ Undeclared) (w : DeclaredAt t t' l name r) where
  does_as : (s : Result ⊤ Undeclared) → r ≡ s → DeclaredAs t t' l name s
  does_as s q = subst (λ (s : Result ⊤ Undeclared). DeclaredAs t t' l name s) q w.does

  named : word t' l name_place ≡ word t l name_place
  named = w.kept.above _ (omega arith)

  pub declared_again : r ≡ Err Already → Tried l n steady (declare_local name span) t t' (Err (already_defined l span name))
  unfolding view ctx_at refusal_of
  declared_again q = record {
    gives = λ code spans fit. stop _ (refuses_in (already_defined l span name) refl t' named (λ rest _. already_declared name span (view (mem t code spans) l rest) (does_as (Err Already) q)));
  }

  pub declared_full : r ≡ Err Full → Tried l n steady (declare_local name span) t t' (Err (too_many_locals l span))
  unfolding view ctx_at refusal_of
  declared_full q = record {
    gives = λ code spans fit. stop _ (refuses_in (too_many_locals l span) refl t' named
        (λ rest _. slips.too_many_locals name span (view (mem t code spans) l rest) (does_as (Err Full) q).0 (does_as (Err Full) q).1));
  }

  pub declared_new : {v : ⊤} → r ≡ Ok v → Tried l n steady (declare_local name span) t t' (Ok n)
  unfolding view ctx_at
  declared_new q = record {
    gives = λ {class} {limit} code spans fit. next (record {
      comes = λ rest _. enough_locals name span (view (mem t code spans) l rest) (does_as (Ok _) q).0 (does_as (Ok _) q).1 ∙ ap (ok tt)
          (sym (view_locals t code spans t' l upvalues_place _ fit.wf fit.low w.kept (omega arith) (does_as (Ok _) q).2 rest));
      agrees = λ rest h. let low = fit.low in still_agrees (w.kept.above _ (omega arith)) h;
      ahead = ahead_kept t code spans t' l limit 0 upvalues_place fit w.wf (record { below = λ i a. w.kept.below i (omega arith); above = w.kept.above }) (omega arith);
    });
  }

pub defined : (l : ℕ) (t t' : List ℕ) → DefinedAt t t' l → Changed l steady define_local t t'
unfolding define_local update_ctx view ctx_at
defined l t t' w = record {
  gives = λ {class} {limit} code spans fit. record {
    comes = λ rest _. ap (ok tt) (sym (view_locals t code spans t' l local_count_place _ fit.wf fit.low w.kept (omega arith) w.does rest));
    agrees = λ rest h. let low = fit.low in still_agrees (w.kept.above _ (omega arith)) h;
    ahead = ahead_kept t code spans t' l limit 0 local_count_place fit w.wf (record { below = λ i a. w.kept.below i (omega arith); above = w.kept.above }) (omega arith);
  };
}

-- ## The end of a scope

abbrev dropping : Local → ℕ
dropping a = if a.is_captured then op.CLOSE_UPVALUE else op.POP

module _ (limit : ℕ) (span : Span) (x : Compiler) where
  pops_is : (ls : List Local) → x.ctx.locals ≡ ls → pops limit span x ≡ pop_locals limit ls span x
  unfolding ◌>>=◌ the go_on
  pops_is ls e = ap (λ (ls : List Local). pop_locals limit ls span x) e

  pop_none : x.ctx.locals ≡ [] → pops limit span x ≡ ok tt x
  unfolding pop_locals done return
  pop_none e = pops_is [] e

  module _ (a : Local) (ls : List Local) (e : x.ctx.locals ≡ a ∷ ls) where
    pop_by : (b : Bool) → ltb x.ctx.scope_depth a.depth ≡ b → pops limit span x ≡
        (if b then (emit_op limit (dropping a) span >> (update_ctx (λ c. with_locals c ls) >> pop_locals limit ls span)) else done) x
    unfolding pop_locals ◌>>=◌ the go_on
    pop_by b q = pops_is (a ∷ ls) e ∙ ap (λ (b : Bool). (if b then (emit_op limit (dropping a) span >> (update_ctx (λ c. with_locals c ls) >> pop_locals limit ls span)) else done) x) q

    pop_stop : a.depth ≤ x.ctx.scope_depth → pops limit span x ≡ ok tt x
    unfolding done return
    pop_stop h = pop_by false (le-ltb _ _ h)

    pop_more : x.ctx.scope_depth < a.depth → pops limit span x ≡ (emit_op limit (dropping a) span >> (update_ctx (λ c. with_locals c ls) >> pop_locals limit ls span)) x
    pop_more h = pop_by true (lt-ltb _ _ h)

-- what comes after a step that has gone on
seq_after : (limit byte : ℕ) (span : Span) (m : Compile Unit) (x y : Compiler) → emit_u8 limit byte span x ≡ ok tt y → (emit_u8 limit byte span >> m) x ≡ m y
unfolding ◌>>◌ go_on
seq_after limit byte span m x y e = ap (λ (o : Outcome Unit). go_on o (λ _. m)) e

module _ (l limit : ℕ) (span : Span) (t code spans : List ℕ) (fit : Fit (mem t code spans) l limit) where
  pub popped_none : get_or t (l * level_words + local_count_place) 0 ≡ 0 → PoppedAt limit l span (mem t code spans) (mem t code spans) (Ok false)
  unfolding view ctx_at stack
  popped_none z = record {
    does = λ class. record {
      comes = λ rest _. pop_none limit span (view (mem t code spans) l rest) (ap (stack (λ i. local_of (get_or t (l * level_words + i) 0))) z);
      agrees = λ rest h. h;
      ahead = ahead_none fit;
    };
  }

  -- the newest local
  abbrev newest : Local
  newest = local_of (get_or t (l * level_words + (get_or t (l * level_words + local_count_place) 0 - 1)) 0)

  module _ (some : get_or t (l * level_words + local_count_place) 0 ≡ 0 → ⊥) where
    peel : locals_of t l ≡ newest ∷ stack (λ i. local_of (get_or t (l * level_words + i) 0)) (get_or t (l * level_words + local_count_place) 0 - 1)
    unfolding stack
    peel = let e : get_or t (l * level_words + local_count_place) 0 ≡ suc (get_or t (l * level_words + local_count_place) 0 - 1) = omega arith in ap
        (stack (λ i. local_of (get_or t (l * level_words + i) 0))) e

    pub popped_stop : newest.depth ≤ get_or t (l * level_words + depth_place) 0 → PoppedAt limit l span (mem t code spans) (mem t code spans) (Ok false)
    unfolding view ctx_at
    popped_stop h = record {
      does = λ class. record {
        comes = λ rest _. pop_stop limit span (view (mem t code spans) l rest) newest _ peel h;
        agrees = λ rest g. g;
        ahead = ahead_none fit;
      };
    }

    module _ (deep : get_or t (l * level_words + depth_place) 0 < newest.depth) (byte : ℕ) (is : byte ≡ dropping newest) (t₁ code₁ spans₁ : List ℕ) (r : Result ⊤ No_room)
        (w : Wrote t code spans t₁ code₁ spans₁ l limit byte span r) where
      pub popped_full : {e : No_room} → r ≡ Err e → PoppedAt limit l span (mem t code spans) (mem t₁ code₁ spans₁) (Err (code_full l))
      unfolding view ctx_at emit_op
      popped_full q = record {
        does = (
          λ class. record {
            refuses = λ rest h. pop_more limit span (view (mem t code spans) l rest) newest _ peel deep
                ∙ ap (λ (b : ℕ). (emit_u8 limit b span >> (update_ctx
                (λ c. with_locals c (stack (λ i. local_of (get_or t (l * level_words + i) 0)) (get_or t (l * level_words + local_count_place) 0 - 1))) >>
                pop_locals limit (stack (λ i. local_of (get_or t (l * level_words + i) 0)) (get_or t (l * level_words + local_count_place) 0 - 1)) span)) (view (mem t code spans) l rest)) (sym is)
                ∙ (refused_seq (byte_full l limit byte span t code spans t₁ code₁ spans₁ r fit w {class = class} q) _).refuses rest h;
          },
          refl,
        );
      }

      pub still_some : 0 < get_or t₁ (l * level_words + local_count_place) 0
      still_some = let low = fit.low in omega (arith, kept_off _ _ t t₁ (l * level_words + local_count_place) w.kept (λ x y. omega arith))

      module _ (t₂ : List ℕ) (d : Dropped t₁ t₂ l (local_of (get_or t₁ (l * level_words + (get_or t₁ (l * level_words + local_count_place) 0 - 1)) 0))) where
        at : (o : ℕ) → o < level_words → get_or t₁ (l * level_words + o) 0 ≡ get_or t (l * level_words + o) 0
        at o h = let low = fit.low in kept_off _ _ t t₁ _ w.kept (λ x y. omega arith)

        count : get_or t₁ (l * level_words + local_count_place) 0 ≡ get_or t (l * level_words + local_count_place) 0
        count = at local_count_place (omega arith)

        same_newest : local_of (get_or t₁ (l * level_words + (get_or t₁ (l * level_words + local_count_place) 0 - 1)) 0) ≡ newest
        same_newest = let few = fit.wf.few_locals l fit.low in ap (λ (k : ℕ). local_of (get_or t₁ (l * level_words + (k - 1)) 0)) count ∙ ap local_of
            (at (get_or t (l * level_words + local_count_place) 0 - 1) (omega arith))

        split : locals_of t l ≡ newest ∷ locals_of t₂ l
        split = sym (locals_same t t₁ l (fit.wf.few_locals l fit.low) (λ o h. at o (omega arith))) ∙ d.does ∙ ap (λ (a : Local). a ∷ locals_of t₂ l) same_newest

        dropped_view : (rest : Rest) → with_ctx (view (mem t₁ code₁ spans₁) l rest) (with_locals (view (mem t₁ code₁ spans₁) l rest).ctx (locals_of t₂ l)) ≡ view (mem t₂ code₁ spans₁) l rest
        dropped_view rest = sym (view_locals t₁ code₁ spans₁ t₂ l upvalues_place _ w.wf fit.low
            (record { below = λ i a. d.kept.below i (omega arith); above = d.kept.above }) (omega arith) refl rest)

        after : (rest : Rest) → (update_ctx (λ c. with_locals c (locals_of t₂ l)) >> pop_locals limit (locals_of t₂ l) span) (view (mem t₁ code₁ spans₁) l rest) ≡
            pops limit span (view (mem t₂ code₁ spans₁) l rest)
        unfolding ◌>>◌ update_ctx go_on ◌>>=◌ the view ctx_at
        after rest = ap (pop_locals limit (locals_of t₂ l) span) (dropped_view rest)

        pub popped_more : {v : ⊤} → r ≡ Ok v → PoppedAt limit l span (mem t code spans) (mem t₂ code₁ spans₁) (Ok true)
        unfolding view ctx_at emit_op
        popped_more q =
            let low = fit.low in
            let gb : (class : ℕ) → Gave class limit l steady (emit_u8 limit byte span) tt (mem t code spans) (mem t₁ code₁ spans₁) = λ class. byte_gave l limit
            byte span t code spans t₁ code₁ spans₁ r fit w q in
            let fit₁ : Fit (mem t₁ code₁ spans₁) l limit = record { low = low; wf = w.wf; coded = w.coded } in
            record {
              does = (
                record {
                  same = λ {class} rest h. pop_more limit span (view (mem t code spans) l rest) newest _ split deep
                      ∙ ap (λ (b : ℕ). (emit_u8 limit b span >> (update_ctx (λ c. with_locals c (locals_of t₂ l)) >> pop_locals limit (locals_of t₂ l) span)) (view (mem t code spans) l rest)) (sym is)
                      ∙ seq_after limit byte span _ (view (mem t code spans) l rest) (view (mem t₁ code₁ spans₁) l rest) ((gb class).comes rest h)
                      ∙ after rest;
                  agrees = λ {class} rest h. still_agrees (d.kept.above _ (omega arith)) ((gb class).agrees rest h);
                  ahead = ahead_then (gb 0).ahead (ahead_kept t₁ code₁ spans₁ t₂ l limit 256 upvalues_place fit₁ d.wf d.kept (omega arith));
                },
                omega (arith, d.fewer, count),
              );
            }

-- an answer that was told apart
pub popped_as : {limit l : ℕ} {span : Span} {before now : Mem} {r : Result Bool Why} (s : Result Bool Why) → PoppedAt limit l span before now r → r ≡ s → PoppedAt limit l span before now s
popped_as {limit} {l} {span} {before} {now} s h e = subst (λ (s : Result Bool Why). PoppedAt limit l span before now s) e h

-- none is popped yet
pub passing_none : {limit l : ℕ} (p : Compile Unit) {m : Mem} → Fit m l limit → Passing limit l p m m
passing_none p fit = record { same = λ rest h. refl; agrees = λ rest h. h; ahead = ahead_none fit }

pub passing_then : {limit l : ℕ} {p : Compile Unit} {a b c : Mem} → Passing limit l p a b → Passing limit l p b c → Passing limit l p a c
passing_then x y = record { same = λ rest h. x.same rest h ∙ y.same rest (x.agrees rest h); agrees = λ rest h. y.agrees rest (x.agrees rest h); ahead = ahead_then x.ahead y.ahead }

module _ (l limit d : ℕ) (span : Span) (t code spans t₁ : List ℕ) (fit : Fit (mem t code spans) l limit) (w : Moved t t₁ l d)
    (q : d ≡ get_or t (l * level_words + depth_place) 0 - 1) (mid : Mem) (p : Passing limit l (pops limit span) (mem t₁ code spans) mid) where
  pub ended : (now : Mem) → PoppedAt limit l span mid now (Ok false) → {class : ℕ} → Gave class limit l shallower (end_scope limit span) tt (mem t code spans) now
  unfolding end_scope
  ended now h {class} =
      let g = h.does class in
      gave_seq (lowered l d t t₁ w q code spans fit) _ (record {
        comes = λ rest a. p.same rest a ∙ g.comes rest (p.agrees rest a);
        agrees = λ rest a. g.agrees rest (p.agrees rest a);
        ahead = ahead_then p.ahead g.ahead;
      })

  pub ended_full : (now : Mem) (x : Why) → PoppedAt limit l span mid now (Err x) → {class : ℕ} → Refused class l (end_scope limit span) (mem t code spans) (told (t_of now) x)
  unfolding end_scope
  ended_full now x h {class} = gave_refused_seq (lowered l d t t₁ w q code spans fit) _ (record { refuses = λ rest a. p.same rest a ∙ (h.does.0 class).refuses rest (p.agrees rest a) })

-- ## A context

scope_of : (t code spans : List ℕ) (l : ℕ) (c : CompilerCtx) → ctx_at t code spans l (end_of_code t) (end_of_runs t) ≡ c → get_or t (l * level_words + depth_place) 0 ≡ c.scope_depth
unfolding ctx_at
scope_of t code spans l c e = ap (λ (c : CompilerCtx). c.scope_depth) e

pub entered : (l name arity kind : ℕ) (t t' : List ℕ) → l + 1 < levels → Began t t' l name arity kind → Entered l name arity kind t t'
unfolding begin_ctx view depth_at
entered l name arity kind t t' low w = record {
  fit = λ {limit} code spans fit. record { low = omega arith; wf = w.wf; coded = w.coded code spans limit fit.coded };
  comes = λ code spans rest. let c = w.fresh code spans in let ps = w.around code spans in ap (ok tt)
      (sym (λ i. record { ctx = c i; parents = ps i; class_ctx = rest.classes; functions = rest.functions }));
  deep = λ code spans. scope_of t' code spans (suc l) _ (w.fresh code spans);
  kept = w.kept;
}

-- it is said of the number nothing but what kind it is
pub entered_as : (l name arity j k : ℕ) (t t' : List ℕ) → type_of j ≡ type_of k → Entered l name arity j t t' → Entered l name arity k t t'
entered_as l name arity j k t t' e h = record {
  fit = λ code spans. h.fit code spans;
  comes = λ code spans rest. subst (λ (type : FunctionType). begin_ctx (new_ctx name arity type (depth_at (mem t code spans) l + 1)) (view (mem t code spans) l rest) ≡ ok tt (view (mem t' code spans) (suc l) rest))
      e (h.comes code spans rest);
  deep = h.deep;
  kept = h.kept;
}

-- the level above l is left
leave_is : (l : ℕ) (t code spans : List ℕ) (rest : Rest) → end_ctx (view (mem t code spans) (suc l) rest) ≡ ok (length rest.functions, upvalues_of t (suc l)) (record {
  ctx = ctx_at t code spans l (start_of_code t (suc l)) (start_of_runs t (suc l));
  parents = parents_of t code spans l;
  class_ctx = rest.classes;
  functions = (finished (mem t code spans) (suc l) rest).functions;
})
unfolding end_ctx back_to ◌>>=◌ the go_on view parents_of ctx_at
leave_is l t code spans rest = refl

left_up : (l : ℕ) (t t' : List ℕ) → suc l < levels → Wf t → Closed t t' (suc l) → Left (suc l) t t'
unfolding view
left_up l t t' low wf w =
    let at : (k o : ℕ) → k < levels → o < level_words → get_or t' (k * level_words + o) 0 ≡ get_or t (k * level_words + o) 0 = λ k o a b. kept_off _ _ t t' _ w.kept (λ x y. omega arith) in
    let q : suc l - 1 ≡ l = omega arith in
    record {
      fit = λ {limit} code spans fit.
          let ok' = fit.coded in
          subst (λ (k : ℕ). Fit (mem t' code spans) k limit) (sym q) (record {
            low = omega arith;
            wf = w.wf;
            coded = record {
              room_code = ok'.room_code;
              room_runs = ok'.room_runs;
              within = omega (arith, w.code, ok'.top, ok'.within);
              fewer = omega (arith, w.code, w.runs, ok'.fewer_at (suc l) (omega arith));
              fewer_at = λ k z. omega (arith, at k code_from_place (omega arith) (omega arith), at k runs_from_place (omega arith) (omega arith), ok'.fewer_at k (omega arith));
              from_zero = at 0 code_from_place (omega arith) (omega arith) ∙ ok'.from_zero;
              top = omega (arith, w.code, at l code_from_place (omega arith) (omega arith), ok'.order l (omega arith));
              top_runs = omega (arith, w.runs, at l runs_from_place (omega arith) (omega arith), ok'.order_runs l (omega arith));
              order = λ k z. omega (arith, at k code_from_place (omega arith) (omega arith), at (suc k) code_from_place (omega arith) (omega arith), ok'.order k (omega arith));
              order_runs = λ k z. omega (arith, at k runs_from_place (omega arith) (omega arith), at (suc k) runs_from_place (omega arith) (omega arith), ok'.order_runs k (omega arith));
            };
          });
      comes = λ code spans rest.
          let c : ctx_at t code spans l (start_of_code t (suc l)) (start_of_runs t (suc l)) ≡ ctx_at t' code spans l (end_of_code t') (end_of_runs t') =
          sym (ap₂ (ctx_at t' code spans l) w.code w.runs ∙ ctx_same t code spans t' code spans l (start_of_code t (suc l)) (start_of_runs t (suc l)) wf
          (omega arith) (λ o h. at l o (omega arith) (omega arith)) (λ i h. refl) (λ i h. refl)) in
          let ps : parents_of t code spans l ≡ parents_of t' code spans l = sym
          (parents_named t t' l wf (omega arith) (λ k o a b. at k o (omega arith) (omega arith)) (at l code_from_place (omega arith) (omega arith))
          (at l runs_from_place (omega arith) (omega arith)) code spans) in
          leave_is l t code spans rest
          ∙ ap (ok (length rest.functions, upvalues_of t (suc l)))
          (λ i. record { ctx = c i; parents = ps i; class_ctx = rest.classes; functions = (finished (mem t code spans) (suc l) rest).functions })
          ∙ ap (λ (k : ℕ). ok (length rest.functions, upvalues_of t (suc l)) (view (mem t' code spans) k (finished (mem t code spans) (suc l) rest))) (sym q);
      kept = w.kept;
    }

pub left : (l : ℕ) (t t' : List ℕ) → 0 < l → l < levels → Wf t → Closed t t' l → Left l t t'
left zero t t' h low wf w = absurd (omega arith)
left (suc l) t t' h low wf w = left_up l t t' low wf w
