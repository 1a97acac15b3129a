-- Normal-order reduction with a number of steps: towards a first reduct, to the normal form, and of the domain of a function type.
use Rattle.std.proofs.Common.{◌≡◌, ℕ, suc, ◌+◌, ◌≤◌, Bool, true, refl, ap, ◌∙◌, arith}
use mathlib.Core.Option.{some, none}
use Rattle.theory.specs.Terms.{Term, pi}
use Rattle.theory.specs.Environment.{Env}
use Rattle.theory.specs.Reduction.{bind, normal_step, normal_steps}
use Rattle.theory.proofs.NormalSteps.{domain_reaches}
use Rattle.theory.proofs.NormalForms.{NormalForm, Going}
use Rattle.kernel.specs.Inference.{Worked}

-- A first reduct within the steps.
pub going_worked : {e : Env} {p : Term → Bool} {t u : Term} {n most : ℕ} → Going e p t n u → p u ≡ true → n ≤ most → Worked e p most t u
going_worked {n} f is l = record { first = record { n = n; reaches = f.reaches; is = is; before = f.before }; within = l }

-- One step more.
pub steps_more : (e : Env) (n : ℕ) (t : Term) {u v : Term} → normal_steps e n t ≡ some u → normal_step e u ≡ some v → normal_steps e (suc n) t ≡ some v
steps_more e n t p q = ap (λ o. bind o (normal_step e)) p ∙ q

-- Towards the normal form: n steps of those allowed brought k to c.
pub record Rests (e : Env) (most : ℕ) (k : Term) (n : ℕ) (c : Term) : Type 0 where
  pub reaches : normal_steps e n k ≡ some c
  pub within : n ≤ most

pub rests_start : (e : Env) (most : ℕ) (k : Term) → Rests e most k 0 k
rests_start e most k = record { reaches = refl; within = omega arith }

pub rests_on : {e : Env} {most n : ℕ} {k c d : Term} → Rests e most k n c → normal_step e c ≡ some d → suc n ≤ most → Rests e most k (suc n) d
rests_on {e} {n} {k} r s l = record { reaches = steps_more e n k r.reaches s; within = l }

pub rests_rest : {e : Env} {most n : ℕ} {k c : Term} → Rests e most k n c → normal_step e c ≡ none → NormalForm e k c
rests_rest {n} r s = record { n = n; reaches = r.reaches; normal = s }

pub rests_long : {e : Env} {most : ℕ} {k c d : Term} → Rests e most k most c → normal_step e c ≡ some d → normal_steps e (suc most) k ≡ some d
rests_long {e} {most} {k} r s = steps_more e most k r.reaches s

-- n steps brought k to pi a b, and m more brought its domain to c.
pub record Domain (e : Env) (most : ℕ) (k a b : Term) (n m : ℕ) (c : Term) : Type 0 where
  pub function : normal_steps e n k ≡ some (pi a b)
  pub reaches : normal_steps e m a ≡ some c
  pub within : n + m ≤ most

pub domain_start : {e : Env} {most n : ℕ} {k a b : Term} → normal_steps e n k ≡ some (pi a b) → n ≤ most → Domain e most k a b n 0 a
domain_start p l = record { function = p; reaches = refl; within = omega arith }

pub domain_on : {e : Env} {most n m : ℕ} {k a b c d : Term} → Domain e most k a b n m c → normal_step e c ≡ some d → suc (n + m) ≤ most → Domain e most k a b n (suc m) d
domain_on {e} {m} {a} r s l = record { function = r.function; reaches = steps_more e m a r.reaches s; within = omega arith }

pub domain_rest : {e : Env} {most n m : ℕ} {k a b c : Term} → Domain e most k a b n m c → normal_step e c ≡ none → NormalForm e a c
domain_rest {m} r s = record { n = m; reaches = r.reaches; normal = s }

-- The function type as a whole: where it has come to, and that it takes longer.
pub domain_whole : {e : Env} {most n m : ℕ} {k a b c : Term} → Domain e most k a b n m c → normal_steps e (n + m) k ≡ some (pi c b)
domain_whole {e} {n} {m} {k} r = domain_reaches e n m k r.function r.reaches

pub domain_long : {e : Env} {most n m : ℕ} {k a b c d : Term} → Domain e most k a b n m c → n + m ≡ most → normal_step e c ≡ some d → normal_steps e (suc most) k ≡ some (pi d b)
domain_long {e} {most} {n} {m} {k} {a} r q s =
    ap (λ j. normal_steps e j k) (let z : suc most ≡ n + suc m = omega arith in z) ∙ domain_reaches e n (suc m) k r.function (steps_more e m a r.reaches s)
