-- The spine of a term, read off the words.
use Rattle.std.proofs.Common.{◌≡◌, ℕ, ◌+◌, ◌*◌, ◌≤◌, false, List, length, sym, refl, ap, ◌∙◌, subst as tr, ap₂, arith}
use mathlib.Core.Option.{some}
use Rattle.theory.specs.Terms.{h_def, h_data, h_con, h_rec, h_eq, h_refl, h_along, Term, var, const, sort, pi, lam, app}
use Rattle.terms.specs.Words.{At, Holds, root, put}
use Rattle.terms.specs.declared.sign.Sign.{Sign}
use Rattle.terms.specs.declared.sign.Sign.TheVariants.{Pi, Lam, App, Rec, Along}
use Rattle.terms.proofs.Places.{holds_within}
use Rattle.terms.proofs.Subterms.{at_function}
use Rattle.reduction.specs.Spines.{uses, head_term, head_of, is_lam, HeadAt}

-- On the way down: at place, count applications below the term at `at`, stands s.
pub record Below (ws : List ℕ) (place count : ℕ) (t : Term) : Type 0 where
  pub term : Term
  pub rest : List ℕ
  pub at : At ws place term rest
  pub counted : uses t ≡ count + uses term
  pub head : head_term t ≡ head_term term

pub record Down (ws : List ℕ) (at place count : ℕ) : Type 0 where
  pub placed : place ≡ at + 3 * count
  pub within : place + 3 ≤ length ws
  pub below : (t : Term) (rest : List ℕ) → At ws at t rest → Below ws place count t

pub down_start : (ws : List ℕ) (at : ℕ) → Holds ws at → Down ws at at 0
down_start ws at h = record { placed = omega arith; within = holds_within ws at h; below = λ t rest a. record { term = t; rest = rest; at = a; counted = omega arith; head = refl } }

-- A sign that was read there.
abbrev pub Read : List ℕ → ℕ → Sign → Type 0
Read ws place s = (t : Term) (rest : List ℕ) → At ws place t rest → s ≡ root t

pub from_app : (t : Term) → App ≡ root t → (f a : Term) × (t ≡ app f a)
from_app (app f a) p = (f, a, refl)
from_app (var x) p = absurd (let z : ◌≡◌ {A = ℕ} 0 1 = cc in omega arith)
from_app (sort i) p = absurd (let z : ◌≡◌ {A = ℕ} 0 1 = cc in omega arith)
from_app (pi a b) p = absurd (let z : ◌≡◌ {A = ℕ} 0 1 = cc in omega arith)
from_app (lam a b) p = absurd (let z : ◌≡◌ {A = ℕ} 0 1 = cc in omega arith)
from_app (const (h_def i)) p = absurd (let z : ◌≡◌ {A = ℕ} 0 1 = cc in omega arith)
from_app (const (h_data i)) p = absurd (let z : ◌≡◌ {A = ℕ} 0 1 = cc in omega arith)
from_app (const (h_con i k)) p = absurd (let z : ◌≡◌ {A = ℕ} 0 1 = cc in omega arith)
from_app (const (h_rec i j)) p = absurd (let z : ◌≡◌ {A = ℕ} 0 1 = cc in omega arith)
from_app (const (h_eq i)) p = absurd (let z : ◌≡◌ {A = ℕ} 0 1 = cc in omega arith)
from_app (const (h_refl i)) p = absurd (let z : ◌≡◌ {A = ℕ} 0 1 = cc in omega arith)
from_app (const (h_along i j)) p = absurd (let z : ◌≡◌ {A = ℕ} 0 1 = cc in omega arith)

pub down_on : (ws : List ℕ) (at place count : ℕ) (s : Sign) → Holds ws at → Down ws at place count → Read ws place s → s ≡ App → Down ws at (place + 3) (count + 1)
down_on ws at place count s h d r g =
    let b₀ = below h.term h.rest h.at in
    record { placed = omega (arith, d.placed); within = holds_within ws (place + 3) (record { term = b₀.term; rest = b₀.rest; at = b₀.at }); below = below }
  where
    below : (t : Term) (rest : List ℕ) → At ws at t rest → Below ws (place + 3) (count + 1) t
    below t rest a =
        let b = d.below t rest a in
        let (f, x, is) = from_app b.term (sym g ∙ r b.term b.rest b.at) in
        record {
          term = f;
          rest = put x b.rest;
          at = at_function ws place f x b.rest (tr (λ z. At ws place z b.rest) is b.at);
          counted = omega (arith, b.counted, ap uses is);
          head = b.head ∙ ap head_term is;
        }

pub down_holds : (ws : List ℕ) (at place count : ℕ) → Holds ws at → Down ws at place count → Holds ws place
down_holds ws at place count h d = let b = d.below h.term h.rest h.at in record { term = b.term; rest = b.rest; at = b.at }

no_app : (t : Term) (s : Sign) → s ≡ root t → (s ≡ App → ⊥) → (uses t ≡ 0) × (head_term t ≡ t)
no_app (var x) s p g = (refl, refl)
no_app (const h) s p g = (refl, refl)
no_app (sort i) s p g = (refl, refl)
no_app (pi x y) s p g = (refl, refl)
no_app (lam x y) s p g = (refl, refl)
no_app (app f x) s p g = absurd (g p)

pub down_end : (ws : List ℕ) (at place count : ℕ) (s : Sign) → Down ws at place count → Read ws place s → (s ≡ App → ⊥) → (t : Term) (rest : List ℕ) → At ws at t rest → HeadAt ws (at + 3 * count) count t
down_end ws at place count s d r g t rest a =
    let b = d.below t rest a in
    let (n, h) = no_app b.term s (r b.term b.rest b.at) g in
    record {
      count = omega (arith, b.counted);
      rest = b.rest;
      at = tr (λ z. At ws (at + 3 * count) z b.rest) (sym (b.head ∙ h)) (tr (λ k. At ws k b.term b.rest) d.placed b.at);
    }

-- Roots tell terms and heads.
pub from_pi : (t : Term) → Pi ≡ root t → (a b : Term) × (t ≡ pi a b)
from_pi (var x) p = absurd (let z : ◌≡◌ {A = ℕ} 0 1 = cc in omega arith)
from_pi (const (h_def l)) p = absurd (let z : ◌≡◌ {A = ℕ} 0 1 = cc in omega arith)
from_pi (const (h_data l)) p = absurd (let z : ◌≡◌ {A = ℕ} 0 1 = cc in omega arith)
from_pi (const (h_con l m)) p = absurd (let z : ◌≡◌ {A = ℕ} 0 1 = cc in omega arith)
from_pi (const (h_rec l m)) p = absurd (let z : ◌≡◌ {A = ℕ} 0 1 = cc in omega arith)
from_pi (const (h_eq l)) p = absurd (let z : ◌≡◌ {A = ℕ} 0 1 = cc in omega arith)
from_pi (const (h_refl l)) p = absurd (let z : ◌≡◌ {A = ℕ} 0 1 = cc in omega arith)
from_pi (const (h_along l m)) p = absurd (let z : ◌≡◌ {A = ℕ} 0 1 = cc in omega arith)
from_pi (sort l) p = absurd (let z : ◌≡◌ {A = ℕ} 0 1 = cc in omega arith)
from_pi (pi x y) p = (x, y, refl)
from_pi (lam x y) p = absurd (let z : ◌≡◌ {A = ℕ} 0 1 = cc in omega arith)
from_pi (app x y) p = absurd (let z : ◌≡◌ {A = ℕ} 0 1 = cc in omega arith)

pub from_lam : (t : Term) → Lam ≡ root t → (a b : Term) × (t ≡ lam a b)
from_lam (var x) p = absurd (let z : ◌≡◌ {A = ℕ} 0 1 = cc in omega arith)
from_lam (const (h_def l)) p = absurd (let z : ◌≡◌ {A = ℕ} 0 1 = cc in omega arith)
from_lam (const (h_data l)) p = absurd (let z : ◌≡◌ {A = ℕ} 0 1 = cc in omega arith)
from_lam (const (h_con l m)) p = absurd (let z : ◌≡◌ {A = ℕ} 0 1 = cc in omega arith)
from_lam (const (h_rec l m)) p = absurd (let z : ◌≡◌ {A = ℕ} 0 1 = cc in omega arith)
from_lam (const (h_eq l)) p = absurd (let z : ◌≡◌ {A = ℕ} 0 1 = cc in omega arith)
from_lam (const (h_refl l)) p = absurd (let z : ◌≡◌ {A = ℕ} 0 1 = cc in omega arith)
from_lam (const (h_along l m)) p = absurd (let z : ◌≡◌ {A = ℕ} 0 1 = cc in omega arith)
from_lam (sort l) p = absurd (let z : ◌≡◌ {A = ℕ} 0 1 = cc in omega arith)
from_lam (pi x y) p = absurd (let z : ◌≡◌ {A = ℕ} 0 1 = cc in omega arith)
from_lam (lam x y) p = (x, y, refl)
from_lam (app x y) p = absurd (let z : ◌≡◌ {A = ℕ} 0 1 = cc in omega arith)

pub rec_head : (t : Term) (i j : ℕ) → Rec i j ≡ root t → head_of t ≡ some (h_rec i j)
rec_head (var x) i j p = absurd (let z : ◌≡◌ {A = ℕ} 0 1 = cc in omega arith)
rec_head (const (h_def l)) i j p = absurd (let z : ◌≡◌ {A = ℕ} 0 1 = cc in omega arith)
rec_head (const (h_data l)) i j p = absurd (let z : ◌≡◌ {A = ℕ} 0 1 = cc in omega arith)
rec_head (const (h_con l m)) i j p = absurd (let z : ◌≡◌ {A = ℕ} 0 1 = cc in omega arith)
rec_head (const (h_rec l m)) i j p = (let z : l ≡ i = cc in let w : m ≡ j = cc in ap₂ (λ u v. some (h_rec u v)) z w)
rec_head (const (h_eq l)) i j p = absurd (let z : ◌≡◌ {A = ℕ} 0 1 = cc in omega arith)
rec_head (const (h_refl l)) i j p = absurd (let z : ◌≡◌ {A = ℕ} 0 1 = cc in omega arith)
rec_head (const (h_along l m)) i j p = absurd (let z : ◌≡◌ {A = ℕ} 0 1 = cc in omega arith)
rec_head (sort l) i j p = absurd (let z : ◌≡◌ {A = ℕ} 0 1 = cc in omega arith)
rec_head (pi x y) i j p = absurd (let z : ◌≡◌ {A = ℕ} 0 1 = cc in omega arith)
rec_head (lam x y) i j p = absurd (let z : ◌≡◌ {A = ℕ} 0 1 = cc in omega arith)
rec_head (app x y) i j p = absurd (let z : ◌≡◌ {A = ℕ} 0 1 = cc in omega arith)

pub along_head : (t : Term) (i j : ℕ) → Along i j ≡ root t → head_of t ≡ some (h_along i j)
along_head (var x) i j p = absurd (let z : ◌≡◌ {A = ℕ} 0 1 = cc in omega arith)
along_head (const (h_def l)) i j p = absurd (let z : ◌≡◌ {A = ℕ} 0 1 = cc in omega arith)
along_head (const (h_data l)) i j p = absurd (let z : ◌≡◌ {A = ℕ} 0 1 = cc in omega arith)
along_head (const (h_con l m)) i j p = absurd (let z : ◌≡◌ {A = ℕ} 0 1 = cc in omega arith)
along_head (const (h_rec l m)) i j p = absurd (let z : ◌≡◌ {A = ℕ} 0 1 = cc in omega arith)
along_head (const (h_eq l)) i j p = absurd (let z : ◌≡◌ {A = ℕ} 0 1 = cc in omega arith)
along_head (const (h_refl l)) i j p = absurd (let z : ◌≡◌ {A = ℕ} 0 1 = cc in omega arith)
along_head (const (h_along l m)) i j p = (let z : l ≡ i = cc in let w : m ≡ j = cc in ap₂ (λ u v. some (h_along u v)) z w)
along_head (sort l) i j p = absurd (let z : ◌≡◌ {A = ℕ} 0 1 = cc in omega arith)
along_head (pi x y) i j p = absurd (let z : ◌≡◌ {A = ℕ} 0 1 = cc in omega arith)
along_head (lam x y) i j p = absurd (let z : ◌≡◌ {A = ℕ} 0 1 = cc in omega arith)
along_head (app x y) i j p = absurd (let z : ◌≡◌ {A = ℕ} 0 1 = cc in omega arith)

pub no_lam : (t : Term) (s : Sign) → s ≡ root t → (s ≡ Lam → ⊥) → is_lam t ≡ false
no_lam (var x) s p n = refl
no_lam (const h) s p n = refl
no_lam (sort i) s p n = refl
no_lam (pi a b) s p n = refl
no_lam (lam a b) s p n = absurd (n p)
no_lam (app f a) s p n = refl
