-- What a typed term reduces to has no more free variables than its context has names.
use Rattle.std.proofs.Common.{◌≡◌, ℕ, zero, suc, ◌+◌, List, length, refl, ◌∙◌, subst as tr}
use mathlib.Core.Option.{some}
use Rattle.theory.specs.Terms.{Term}
use Rattle.theory.specs.Environment.{Env}
use Rattle.theory.specs.Reduction.{normal_step, normal_steps}
use Rattle.theory.specs.Typing.{HasType, WfEnv, WfContext}
use Rattle.theory.proofs.Closed.{Scoped, typed_scoped}
use Rattle.theory.proofs.Options.{some_inj, bind-some}
use Rattle.theory.proofs.NormalSteps.{normal_step_step, normal_steps-then}
use Rattle.theory.proofs.SubjectReduction.{preserved}
use Rattle.reduction.specs.Stepping.{StaysScoped}

steps_typed : (e : Env) (g : List Term) (t a : Term) → WfEnv e → WfContext e g → HasType e g t a → (m : ℕ) (u : Term) → normal_steps e m t ≡ some u → HasType e g u a
steps_typed e g t a w c h zero u p = tr (λ z. HasType e g z a) (some_inj p) h
steps_typed e g t a w c h (suc m) u p = bind-some (normal_steps e m t) (normal_step e) p λ v q s. preserved w (steps_typed e g t a w c h m v q) (normal_step_step e v s) c

pub typed_stays : (e : Env) (g : List Term) (t a : Term) → WfEnv e → WfContext e g → HasType e g t a → StaysScoped e (length g) t
typed_stays e g t a w c h = record { scoped = λ m u p. typed_scoped (steps_typed e g t a w c h m u p) }

-- So for the term itself, and for the term after a step.
pub stays_now : (e : Env) (n : ℕ) (t : Term) → StaysScoped e n t → Scoped n t
stays_now e n t s = s.scoped 0 t refl

pub stays_on : (e : Env) (n : ℕ) (t u : Term) → normal_step e t ≡ some u → StaysScoped e n t → StaysScoped e n u
stays_on e n t u p s = record { scoped = λ m v q. s.scoped (1 + m) v (normal_steps-then e 1 m t p ∙ q) }
