-- The test whether a term is of the aim's form.
use Rattle.std.proofs.Common.{◌≡◌, ℕ, ◌+◌, Bool, true, false, List, ◌++◌, length, drop, Some, None, Option as Maybe, is_some, not, sym, refl, ap, ◌∙◌, inr, append_assoc, arith, length-append}
use Rattle.std.proofs.lemmas.List.{drop_at}
use Rattle.theory.specs.Terms.{h_def, h_data, h_con, h_rec, h_eq, h_refl, h_along, Term, var, const, sort, pi, lam, app, size}
use Rattle.theory.specs.Environment.{Env}
use Rattle.theory.specs.Reduction.{normal_step}
use Rattle.theory.specs.Typing.{is_pi, is_sort}
use Rattle.terms.specs.Words.{put, At, Holds, root}
use Rattle.terms.specs.declared.sign.Sign.{Sign}
use Rattle.terms.specs.declared.sign.Sign.TheVariants.{Pi, Sort}
use Rattle.terms.specs.declared.sign.Level.{Level}
use Rattle.theory.proofs.Options.{true-false, false-true}
use Rattle.reduction.specs.Stepping.{Findable, FindsStep}
use Rattle.reduction.specs.Aims.{is_none, domain_rests_lem, meets, Met}
use Rattle.reduction.specs.declared.reduce.Aim.{Aim}
use Rattle.reduction.proofs.Finding.{node}

pub front_at : (heap front rest : List ℕ) (t : Term) (at : ℕ) → heap ≡ front ++ put t rest → length front ≡ at → At heap at t rest
front_at heap front rest t at p q = record { stands = ap (drop at) p ∙ drop_at front (put t rest) at q }

pub holds_at : (index store heap : List ℕ) (at stack : ℕ) → Findable index store heap at stack → Holds heap at
holds_at index store heap at stack f = record { term = f.term; rest = f.rest; at = front_at heap f.front f.rest f.term at f.here f.placed }

-- The sign at the root tells function types and sorts.
pub not_pi : (t : Term) (s : Sign) → s ≡ root t → (s ≡ Pi → ⊥) → is_pi t ≡ false
not_pi (pi a b) s p n = absurd (n p)
not_pi (lam a b) s p n = refl
not_pi (app f a) s p n = refl
not_pi (var x) s p n = refl
not_pi (sort i) s p n = refl
not_pi (const h) s p n = refl

pub no_domain : (e : Env) (t : Term) → is_pi t ≡ false → false ≡ domain_rests_lem e t
no_domain e (pi a b) p = true-false p
no_domain e (lam a b) p = refl
no_domain e (app f a) p = refl
no_domain e (var x) p = refl
no_domain e (sort i) p = refl
no_domain e (const h) p = refl

pub sort_root : (t : Term) (l : Level) → Sort l ≡ root t → is_sort t ≡ true
sort_root (sort i) l p = refl
sort_root (pi a b) l p = absurd (let z : ◌≡◌ {A = ℕ} 0 1 = cc in omega arith)
sort_root (lam a b) l p = absurd (let z : ◌≡◌ {A = ℕ} 0 1 = cc in omega arith)
sort_root (app f a) l p = absurd (let z : ◌≡◌ {A = ℕ} 0 1 = cc in omega arith)
sort_root (var x) l p = absurd (let z : ◌≡◌ {A = ℕ} 0 1 = cc in omega arith)
sort_root (const (h_def n)) l p = absurd (let z : ◌≡◌ {A = ℕ} 0 1 = cc in omega arith)
sort_root (const (h_data n)) l p = absurd (let z : ◌≡◌ {A = ℕ} 0 1 = cc in omega arith)
sort_root (const (h_con n k)) l p = absurd (let z : ◌≡◌ {A = ℕ} 0 1 = cc in omega arith)
sort_root (const (h_rec n k)) l p = absurd (let z : ◌≡◌ {A = ℕ} 0 1 = cc in omega arith)
sort_root (const (h_eq n)) l p = absurd (let z : ◌≡◌ {A = ℕ} 0 1 = cc in omega arith)
sort_root (const (h_refl n)) l p = absurd (let z : ◌≡◌ {A = ℕ} 0 1 = cc in omega arith)
sort_root (const (h_along n k)) l p = absurd (let z : ◌≡◌ {A = ℕ} 0 1 = cc in omega arith)

pub not_sort : (t : Term) (s : Sign) → s ≡ root t → ((l : Level) → s ≡ Sort l → ⊥) → is_sort t ≡ false
not_sort (sort i) s p n = absurd (n (record { 0 = i }) p)
not_sort (pi a b) s p n = refl
not_sort (lam a b) s p n = refl
not_sort (app f a) s p n = refl
not_sort (var x) s p n = refl
not_sort (const h) s p n = refl

-- The domain of a function type stands behind its sign.
pub domain_here : (heap front rest : List ℕ) (t a b : Term) → heap ≡ front ++ put t rest → t ≡ pi a b → heap ≡ (front ++ node 0) ++ put a (put b rest)
domain_here heap front rest t a b p is = p ∙ (ap (λ (z : Term). front ++ put z rest) is ∙ sym (append_assoc front (node 0) (put a (put b rest))))

pub domain_place : (front : List ℕ) (at : ℕ) → length front ≡ at → length (front ++ node 0) ≡ at + 3
domain_place front at q = omega (arith, length-append front (node 0))

pub domain_findable : (index store heap : List ℕ) (at stack : ℕ) (f : Findable index store heap at stack) (a b : Term) → f.term ≡ pi a b → Findable index store heap (at + 3) stack
domain_findable index store heap at stack f a b is = record {
  env = f.env;
  term = a;
  front = f.front ++ node 0;
  rest = put b f.rest;
  env_at = f.env_at;
  here = domain_here heap f.front f.rest f.term a b f.here is;
  placed = domain_place f.front at f.placed;
  room = omega (arith, f.room, ap size is);
}

-- The tests.
pub met_test : (e : Env) (aim : Aim) (t : Term) (b : Bool) → b ≡ meets e aim t → Met e aim t b
met_test e aim t true p = sym p
met_test e aim t false p = inr (sym p)

pub domain_is : (e : Env) (t a b : Term) → t ≡ pi a b → domain_rests_lem e t ≡ is_none (normal_step e a)
domain_is e t a b is = ap (domain_rests_lem e) is

-- Whether the domain has a step was found out.
pub rests_found : (e : Env) (ws pre : List ℕ) (a : Term) (rest : List ℕ) (o : Maybe ℕ) (r : Bool) → FindsStep e ws pre a rest o → is_some o ≡ not r → r ≡ is_none (normal_step e a)
rests_found e ws pre a rest None true x q = sym (ap is_none x)
rests_found e ws pre a rest None false x q = false-true q
rests_found e ws pre a rest (Some c) true x q = true-false q
rests_found e ws pre a rest (Some c) false (u, is, _) q = sym (ap is_none is)
