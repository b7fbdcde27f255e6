-- Which refusals come from where, by the table of document 01: 3, 4 and 5 from the reader, 10 to 23 from the Rust's own rules, 30 from the code limit;
-- and their numbers and fields.
use mathlib.Core.Path.{◌≡◌, refl}
use mathlib.Core.Logic.{◌≢◌}
use Prim.Native.Nat.{ℕ, ◌≤◌}
use native.Mathlib.Omega.{arith}
use Rattle.rules.specs.declared.Refusal.{Refusal}
use Rattle.rules.specs.declared.Refusal.TheVariants as refusal
use Rattle.rules.specs.Answer as answer
use Rattle.rules.specs.Compiler.{Outcome, ok, err}

-- 3, 4 and 5
abbrev pub Readers : Refusal → Type 0
Readers refusal.WorkShort = ⊥
Readers refusal.TreeTooLong = ⊥
Readers (refusal.TreeForm at) = Unit {0}
Readers (refusal.TreeTooDeep at) = Unit {0}
Readers (refusal.TooManyOpen at) = Unit {0}
Readers (refusal.AlreadyDefined span name) = ⊥
Readers (refusal.AccessInsideInitializer span name) = ⊥
Readers (refusal.ClassInheritFromSelf span name) = ⊥
Readers (refusal.JumpTooLarge span) = ⊥
Readers (refusal.TooManyArgs span) = ⊥
Readers (refusal.TooManyConstants span) = ⊥
Readers (refusal.TooManyLocals span) = ⊥
Readers (refusal.TooManyParams span) = ⊥
Readers (refusal.TooManyUpvalues span) = ⊥
Readers (refusal.ReturnInInitializer span) = ⊥
Readers (refusal.ReturnOutsideFunction span) = ⊥
Readers (refusal.SuperOutsideClass span) = ⊥
Readers (refusal.SuperWithoutSuperclass span) = ⊥
Readers (refusal.ThisOutsideClass span) = ⊥
Readers refusal.CodeFull = ⊥
Readers (refusal.OutFull needed) = ⊥
Readers refusal.ImageRefused = ⊥
Readers refusal.NoSuchFunction = ⊥
Readers refusal.NoSuchByte = ⊥

-- 10 to 23
abbrev pub Rusts : Refusal → Type 0
Rusts refusal.WorkShort = ⊥
Rusts refusal.TreeTooLong = ⊥
Rusts (refusal.TreeForm at) = ⊥
Rusts (refusal.TreeTooDeep at) = ⊥
Rusts (refusal.TooManyOpen at) = ⊥
Rusts (refusal.AlreadyDefined span name) = Unit {0}
Rusts (refusal.AccessInsideInitializer span name) = Unit {0}
Rusts (refusal.ClassInheritFromSelf span name) = Unit {0}
Rusts (refusal.JumpTooLarge span) = Unit {0}
Rusts (refusal.TooManyArgs span) = Unit {0}
Rusts (refusal.TooManyConstants span) = Unit {0}
Rusts (refusal.TooManyLocals span) = Unit {0}
Rusts (refusal.TooManyParams span) = Unit {0}
Rusts (refusal.TooManyUpvalues span) = Unit {0}
Rusts (refusal.ReturnInInitializer span) = Unit {0}
Rusts (refusal.ReturnOutsideFunction span) = Unit {0}
Rusts (refusal.SuperOutsideClass span) = Unit {0}
Rusts (refusal.SuperWithoutSuperclass span) = Unit {0}
Rusts (refusal.ThisOutsideClass span) = Unit {0}
Rusts refusal.CodeFull = ⊥
Rusts (refusal.OutFull needed) = ⊥
Rusts refusal.ImageRefused = ⊥
Rusts refusal.NoSuchFunction = ⊥
Rusts refusal.NoSuchByte = ⊥

-- 10 to 23, and 30
abbrev pub Compilers : Refusal → Type 0
Compilers refusal.WorkShort = ⊥
Compilers refusal.TreeTooLong = ⊥
Compilers (refusal.TreeForm at) = ⊥
Compilers (refusal.TreeTooDeep at) = ⊥
Compilers (refusal.TooManyOpen at) = ⊥
Compilers (refusal.AlreadyDefined span name) = Unit {0}
Compilers (refusal.AccessInsideInitializer span name) = Unit {0}
Compilers (refusal.ClassInheritFromSelf span name) = Unit {0}
Compilers (refusal.JumpTooLarge span) = Unit {0}
Compilers (refusal.TooManyArgs span) = Unit {0}
Compilers (refusal.TooManyConstants span) = Unit {0}
Compilers (refusal.TooManyLocals span) = Unit {0}
Compilers (refusal.TooManyParams span) = Unit {0}
Compilers (refusal.TooManyUpvalues span) = Unit {0}
Compilers (refusal.ReturnInInitializer span) = Unit {0}
Compilers (refusal.ReturnOutsideFunction span) = Unit {0}
Compilers (refusal.SuperOutsideClass span) = Unit {0}
Compilers (refusal.SuperWithoutSuperclass span) = Unit {0}
Compilers (refusal.ThisOutsideClass span) = Unit {0}
Compilers refusal.CodeFull = Unit {0}
Compilers (refusal.OutFull needed) = ⊥
Compilers refusal.ImageRefused = ⊥
Compilers refusal.NoSuchFunction = ⊥
Compilers refusal.NoSuchByte = ⊥

-- what the compiler refuses by is the Rust's own, or 30
pub data CompiledBy : Refusal → Type 0 where
  a_rule : {r : Refusal} → Rusts r → CompiledBy r
  the_limit : CompiledBy refusal.CodeFull

pub rusts_compilers : (r : Refusal) → Rusts r → Compilers r
rusts_compilers refusal.WorkShort h = absurd h
rusts_compilers refusal.TreeTooLong h = absurd h
rusts_compilers (refusal.TreeForm at) h = absurd h
rusts_compilers (refusal.TreeTooDeep at) h = absurd h
rusts_compilers (refusal.TooManyOpen at) h = absurd h
rusts_compilers (refusal.AlreadyDefined span name) h = tt
rusts_compilers (refusal.AccessInsideInitializer span name) h = tt
rusts_compilers (refusal.ClassInheritFromSelf span name) h = tt
rusts_compilers (refusal.JumpTooLarge span) h = tt
rusts_compilers (refusal.TooManyArgs span) h = tt
rusts_compilers (refusal.TooManyConstants span) h = tt
rusts_compilers (refusal.TooManyLocals span) h = tt
rusts_compilers (refusal.TooManyParams span) h = tt
rusts_compilers (refusal.TooManyUpvalues span) h = tt
rusts_compilers (refusal.ReturnInInitializer span) h = tt
rusts_compilers (refusal.ReturnOutsideFunction span) h = tt
rusts_compilers (refusal.SuperOutsideClass span) h = tt
rusts_compilers (refusal.SuperWithoutSuperclass span) h = tt
rusts_compilers (refusal.ThisOutsideClass span) h = tt
rusts_compilers refusal.CodeFull h = absurd h
rusts_compilers (refusal.OutFull needed) h = absurd h
rusts_compilers refusal.ImageRefused h = absurd h
rusts_compilers refusal.NoSuchFunction h = absurd h
rusts_compilers refusal.NoSuchByte h = absurd h

pub compiled_by : (r : Refusal) → Compilers r → CompiledBy r
compiled_by refusal.WorkShort h = absurd h
compiled_by refusal.TreeTooLong h = absurd h
compiled_by (refusal.TreeForm at) h = absurd h
compiled_by (refusal.TreeTooDeep at) h = absurd h
compiled_by (refusal.TooManyOpen at) h = absurd h
compiled_by (refusal.AlreadyDefined span name) h = a_rule tt
compiled_by (refusal.AccessInsideInitializer span name) h = a_rule tt
compiled_by (refusal.ClassInheritFromSelf span name) h = a_rule tt
compiled_by (refusal.JumpTooLarge span) h = a_rule tt
compiled_by (refusal.TooManyArgs span) h = a_rule tt
compiled_by (refusal.TooManyConstants span) h = a_rule tt
compiled_by (refusal.TooManyLocals span) h = a_rule tt
compiled_by (refusal.TooManyParams span) h = a_rule tt
compiled_by (refusal.TooManyUpvalues span) h = a_rule tt
compiled_by (refusal.ReturnInInitializer span) h = a_rule tt
compiled_by (refusal.ReturnOutsideFunction span) h = a_rule tt
compiled_by (refusal.SuperOutsideClass span) h = a_rule tt
compiled_by (refusal.SuperWithoutSuperclass span) h = a_rule tt
compiled_by (refusal.ThisOutsideClass span) h = a_rule tt
compiled_by refusal.CodeFull h = the_limit
compiled_by (refusal.OutFull needed) h = absurd h
compiled_by refusal.ImageRefused h = absurd h
compiled_by refusal.NoSuchFunction h = absurd h
compiled_by refusal.NoSuchByte h = absurd h

-- a step refuses so, in whatever function
abbrev pub RefusedBy : {A : Type 0} → Refusal → Outcome A → Type 0
RefusedBy r (ok a s) = ⊥
RefusedBy r (err x) = x.what ≡ r

-- ## Numbers and fields

abbrev pub number_of : Refusal → ℕ
number_of r = (answer.refusal r).number

pub readers_number : (r : Refusal) → Readers r → (3 ≤ number_of r) × (number_of r ≤ 5)
unfolding answer.refusal
readers_number refusal.WorkShort h = absurd h
readers_number refusal.TreeTooLong h = absurd h
readers_number (refusal.TreeForm at) h = (omega arith, omega arith)
readers_number (refusal.TreeTooDeep at) h = (omega arith, omega arith)
readers_number (refusal.TooManyOpen at) h = (omega arith, omega arith)
readers_number (refusal.AlreadyDefined span name) h = absurd h
readers_number (refusal.AccessInsideInitializer span name) h = absurd h
readers_number (refusal.ClassInheritFromSelf span name) h = absurd h
readers_number (refusal.JumpTooLarge span) h = absurd h
readers_number (refusal.TooManyArgs span) h = absurd h
readers_number (refusal.TooManyConstants span) h = absurd h
readers_number (refusal.TooManyLocals span) h = absurd h
readers_number (refusal.TooManyParams span) h = absurd h
readers_number (refusal.TooManyUpvalues span) h = absurd h
readers_number (refusal.ReturnInInitializer span) h = absurd h
readers_number (refusal.ReturnOutsideFunction span) h = absurd h
readers_number (refusal.SuperOutsideClass span) h = absurd h
readers_number (refusal.SuperWithoutSuperclass span) h = absurd h
readers_number (refusal.ThisOutsideClass span) h = absurd h
readers_number refusal.CodeFull h = absurd h
readers_number (refusal.OutFull needed) h = absurd h
readers_number refusal.ImageRefused h = absurd h
readers_number refusal.NoSuchFunction h = absurd h
readers_number refusal.NoSuchByte h = absurd h

pub rusts_number : (r : Refusal) → Rusts r → (10 ≤ number_of r) × (number_of r ≤ 23)
unfolding answer.refusal
rusts_number refusal.WorkShort h = absurd h
rusts_number refusal.TreeTooLong h = absurd h
rusts_number (refusal.TreeForm at) h = absurd h
rusts_number (refusal.TreeTooDeep at) h = absurd h
rusts_number (refusal.TooManyOpen at) h = absurd h
rusts_number (refusal.AlreadyDefined span name) h = (omega arith, omega arith)
rusts_number (refusal.AccessInsideInitializer span name) h = (omega arith, omega arith)
rusts_number (refusal.ClassInheritFromSelf span name) h = (omega arith, omega arith)
rusts_number (refusal.JumpTooLarge span) h = (omega arith, omega arith)
rusts_number (refusal.TooManyArgs span) h = (omega arith, omega arith)
rusts_number (refusal.TooManyConstants span) h = (omega arith, omega arith)
rusts_number (refusal.TooManyLocals span) h = (omega arith, omega arith)
rusts_number (refusal.TooManyParams span) h = (omega arith, omega arith)
rusts_number (refusal.TooManyUpvalues span) h = (omega arith, omega arith)
rusts_number (refusal.ReturnInInitializer span) h = (omega arith, omega arith)
rusts_number (refusal.ReturnOutsideFunction span) h = (omega arith, omega arith)
rusts_number (refusal.SuperOutsideClass span) h = (omega arith, omega arith)
rusts_number (refusal.SuperWithoutSuperclass span) h = (omega arith, omega arith)
rusts_number (refusal.ThisOutsideClass span) h = (omega arith, omega arith)
rusts_number refusal.CodeFull h = absurd h
rusts_number (refusal.OutFull needed) h = absurd h
rusts_number refusal.ImageRefused h = absurd h
rusts_number refusal.NoSuchFunction h = absurd h
rusts_number refusal.NoSuchByte h = absurd h

-- only 31 carries a length
pub no_length : (r : Refusal) → (answer.refusal r).number ≢ 31 → (answer.refusal r).length ≡ 0
unfolding answer.refusal
no_length refusal.WorkShort n = refl
no_length refusal.TreeTooLong n = refl
no_length (refusal.TreeForm at) n = refl
no_length (refusal.TreeTooDeep at) n = refl
no_length (refusal.TooManyOpen at) n = refl
no_length (refusal.AlreadyDefined span name) n = refl
no_length (refusal.AccessInsideInitializer span name) n = refl
no_length (refusal.ClassInheritFromSelf span name) n = refl
no_length (refusal.JumpTooLarge span) n = refl
no_length (refusal.TooManyArgs span) n = refl
no_length (refusal.TooManyConstants span) n = refl
no_length (refusal.TooManyLocals span) n = refl
no_length (refusal.TooManyParams span) n = refl
no_length (refusal.TooManyUpvalues span) n = refl
no_length (refusal.ReturnInInitializer span) n = refl
no_length (refusal.ReturnOutsideFunction span) n = refl
no_length (refusal.SuperOutsideClass span) n = refl
no_length (refusal.SuperWithoutSuperclass span) n = refl
no_length (refusal.ThisOutsideClass span) n = refl
no_length refusal.CodeFull n = refl
no_length (refusal.OutFull needed) n = absurd (n refl)
no_length refusal.ImageRefused n = refl
no_length refusal.NoSuchFunction n = refl
no_length refusal.NoSuchByte n = refl

-- a refusal that is in no function has its own fields alone: the other two are 0
pub refusal_outside : (r : Refusal) → answer.refusal_in (answer.outside r) ≡ answer.refusal r
unfolding answer.refusal answer.refusal_in
refusal_outside refusal.WorkShort = refl
refusal_outside refusal.TreeTooLong = refl
refusal_outside (refusal.TreeForm at) = refl
refusal_outside (refusal.TreeTooDeep at) = refl
refusal_outside (refusal.TooManyOpen at) = refl
refusal_outside (refusal.AlreadyDefined span name) = refl
refusal_outside (refusal.AccessInsideInitializer span name) = refl
refusal_outside (refusal.ClassInheritFromSelf span name) = refl
refusal_outside (refusal.JumpTooLarge span) = refl
refusal_outside (refusal.TooManyArgs span) = refl
refusal_outside (refusal.TooManyConstants span) = refl
refusal_outside (refusal.TooManyLocals span) = refl
refusal_outside (refusal.TooManyParams span) = refl
refusal_outside (refusal.TooManyUpvalues span) = refl
refusal_outside (refusal.ReturnInInitializer span) = refl
refusal_outside (refusal.ReturnOutsideFunction span) = refl
refusal_outside (refusal.SuperOutsideClass span) = refl
refusal_outside (refusal.SuperWithoutSuperclass span) = refl
refusal_outside (refusal.ThisOutsideClass span) = refl
refusal_outside refusal.CodeFull = refl
refusal_outside (refusal.OutFull needed) = refl
refusal_outside refusal.ImageRefused = refl
refusal_outside refusal.NoSuchFunction = refl
refusal_outside refusal.NoSuchByte = refl
