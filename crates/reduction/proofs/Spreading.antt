-- A spine expands into its head and its arguments, as far as nothing on the way is a redex or looks at its last argument.
use Rattle.std.proofs.Common.{◌≡◌, ℕ, zero, suc, ◌+◌, ◌*◌, ◌<◌, ◌≤◌, false, ◌⊎◌, List, [], ◌∷◌, ◌++◌, length, sym, refl, ap, ◌∙◌, ap₂, inl, inr, append_assoc, append-nil, arith}
use mathlib.Core.Option.{Option, some, none}
use Rattle.theory.specs.Terms.{Head, h_def, h_data, h_con, h_rec, h_eq, h_refl, h_along, Term, var, const, sort, pi, lam, app, option}
use Rattle.theory.specs.Environment.{Env, data_at}
use Rattle.theory.specs.Reduction.{or_else, bind, spine, beta, iota_head, needs_last, normal_step}
use Rattle.theory.proofs.Options.{true-false, cases_option}
use Rattle.theory.proofs.WeakHead.{needs_arg}
use Rattle.terms.specs.Words.{put}
use Rattle.reduction.specs.Spines.{uses, head_term, head_of, wants, is_lam, strip, CalmApp, CalmTo}
use Rattle.reduction.proofs.Finding.{Item, plain, words, within, ans, node, value_parts, calm_parts, expand_app}

-- So many applications.
abbrev pub twos : ℕ → List ℕ
twos zero = []
twos (suc k) = 2 ∷ 0 ∷ 0 ∷ twos k

pub length_twos : (k : ℕ) → length (twos k) ≡ 3 * k
length_twos zero = refl
length_twos (suc k) = omega (arith, length_twos k)

-- What is to come behind the term below k applications.
abbrev pub others : ℕ → Term → List Item → List Item
others zero t is = is
others (suc k) (var x) is = is
others (suc k) (const h) is = is
others (suc k) (sort i) is = is
others (suc k) (pi a b) is = is
others (suc k) (lam a b) is = is
others (suc k) (app f a) is = others k f (plain a ∷ is)

-- Words before and behind k applications.
more_twos : (pre : List ℕ) (k : ℕ) → (pre ++ node 2) ++ twos k ≡ pre ++ twos (suc k)
more_twos pre k = append_assoc pre (node 2) (twos k)

-- A spine and its first k applications.
pub unwind : (e : Env) (r pre : List ℕ) (k : ℕ) (t : Term) (is : List Item) → k ≤ uses t → CalmTo e k t
    → ans e r pre none (plain t ∷ is) ≡ ans e r (pre ++ twos k) none (plain (strip k t) ∷ others k t is)
unwind e r pre zero t is l c = ap (λ q. ans e r q none (plain t ∷ is)) (sym (append-nil pre))
unwind e r pre (suc k) (var x) is l c = absurd (omega arith)
unwind e r pre (suc k) (const h) is l c = absurd (omega arith)
unwind e r pre (suc k) (sort i) is l c = absurd (omega arith)
unwind e r pre (suc k) (pi a b) is l c = absurd (omega arith)
unwind e r pre (suc k) (lam a b) is l c = absurd (omega arith)
unwind e r pre (suc k) (app f a) is l c =
    expand_app e r pre f a is c.0
    ∙ (unwind e r (pre ++ node 2) k f (plain a ∷ is) (omega arith) c.1
    ∙ ap (λ q. ans e r q none (plain (strip k f) ∷ others k f (plain a ∷ is))) (more_twos pre k))

-- Its words.
pub unwind_words : (r : List ℕ) (k : ℕ) (t : Term) (is : List Item) → k ≤ uses t → put t (words is r) ≡ twos k ++ put (strip k t) (words (others k t is) r)
unwind_words r zero t is l = refl
unwind_words r (suc k) (var x) is l = absurd (omega arith)
unwind_words r (suc k) (const h) is l = absurd (omega arith)
unwind_words r (suc k) (sort i) is l = absurd (omega arith)
unwind_words r (suc k) (pi a b) is l = absurd (omega arith)
unwind_words r (suc k) (lam a b) is l = absurd (omega arith)
unwind_words r (suc k) (app f a) is l = ap (λ w. 2 ∷ 0 ∷ 0 ∷ w) (unwind_words r k f (plain a ∷ is) (omega arith))

-- A step below calm applications is the step of the spine.
or_some : {A : Type 0} (x y : Option A) {z : A} → x ≡ some z → or_else x y ≡ some z
or_some x y p = rw p

pub hit_below : (e : Env) (r pre : List ℕ) (k : ℕ) (t : Term) (is : List Item) {ws : List ℕ} → k ≤ uses t → CalmTo e k t
    → within (pre ++ twos k) (words (others k t is) r) (normal_step e (strip k t)) ≡ some ws → within pre (words is r) (normal_step e t) ≡ some ws
hit_below e r pre zero t is l c p = ap (λ q. within q (words is r) (normal_step e t)) (sym (append-nil pre)) ∙ p
hit_below e r pre (suc k) (var x) is l c p = absurd (omega arith)
hit_below e r pre (suc k) (const h) is l c p = absurd (omega arith)
hit_below e r pre (suc k) (sort i) is l c p = absurd (omega arith)
hit_below e r pre (suc k) (pi a b) is l c p = absurd (omega arith)
hit_below e r pre (suc k) (lam a b) is l c p = absurd (omega arith)
hit_below e r pre (suc k) (app f a) is l c p =
    value_parts app 2 (λ a b r. refl) e pre f a (words is r) (calm_parts e f a c.0)
    ∙ or_some _ _ (hit_below e r (pre ++ node 2) k f (plain a ∷ is) (omega arith) c.1
    (ap (λ q. within q (words (others k f (plain a ∷ is)) r) (normal_step e (strip k f))) (more_twos pre k) ∙ p))

-- The head and the number of arguments of a spine.
pub spine_head_is : (t : Term) (as₁ : List Term) → (spine t as₁).head ≡ head_of (head_term t)
spine_head_is (var x) as₁ = refl
spine_head_is (const h) as₁ = refl
spine_head_is (sort i) as₁ = refl
spine_head_is (pi a b) as₁ = refl
spine_head_is (lam a b) as₁ = refl
spine_head_is (app f a) as₁ = spine_head_is f (a ∷ as₁)

pub spine-length : (t : Term) (as₁ : List Term) → length (spine t as₁).args ≡ uses t + length as₁
spine-length (var x) as₁ = omega arith
spine-length (const h) as₁ = omega arith
spine-length (sort i) as₁ = omega arith
spine-length (pi a b) as₁ = omega arith
spine-length (lam a b) as₁ = omega arith
spine-length (app f a) as₁ = spine-length f (a ∷ as₁) ∙ omega arith

pub needs_is : (e : Env) (f a : Term) → needs_arg e f a ≡ wants e (head_term f) (suc (uses f))
needs_is e f a =
    ap₂ (λ (o : Option Head) (n : ℕ). option o false (λ h. needs_last e h n)) (spine_head_is f (a ∷ [])) (spine-length f (a ∷ []) ∙ (let z : uses f + 1 ≡ suc (uses f) = omega arith in z))

-- A head that does not look at its last argument does not reduce.
quiet_head : (e : Env) (h : Head) (as₁ : List Term) → needs_last e h (length as₁) ≡ false → iota_head e h as₁ ≡ none
quiet_head e (h_def i) as₁ p = refl
quiet_head e (h_data i) as₁ p = refl
quiet_head e (h_con i k) as₁ p = refl
quiet_head e (h_rec i j) as₁ p = cases_option (data_at e i) (λ q. rw q) (λ k q. let z = rw q at p in rw (q, z))
quiet_head e (h_eq i) as₁ p = refl
quiet_head e (h_refl i) as₁ p = refl
quiet_head e (h_along i j) as₁ p = rw p

quiet : (e : Env) (o : Option Head) (as₁ : List Term) → option o false (λ h. needs_last e h (length as₁)) ≡ false → bind o (λ h. iota_head e h as₁) ≡ none
quiet e none as₁ p = refl
quiet e (some h) as₁ p = quiet_head e h as₁ p

no_beta : (f a : Term) → is_lam f ≡ false → beta f a ≡ none
no_beta (var x) a p = refl
no_beta (const h) a p = refl
no_beta (sort i) a p = refl
no_beta (pi b c) a p = refl
no_beta (lam b c) a p = true-false p
no_beta (app f b) a p = refl

pub calm_app : (e : Env) (f a : Term) → is_lam f ≡ false → wants e (head_term f) (suc (uses f)) ≡ false → CalmApp e f a
calm_app e f a p q =
    let n : needs_arg e f a ≡ false = needs_is e f a ∙ q in
    record { no_redex = ap₂ or_else (no_beta f a p) (quiet e (spine f (a ∷ [])).head (spine f (a ∷ [])).args n); no_need = n }

-- The outer k applications are calm if the head is no function, or is used further in, and does not look at an argument among the last k.
not_lam : (f : Term) → 0 < uses f → is_lam f ≡ false
not_lam (var x) l = refl
not_lam (const h) l = refl
not_lam (sort i) l = refl
not_lam (pi a b) l = refl
not_lam (lam a b) l = absurd (omega arith)
not_lam (app f a) l = refl

head_lam : (f : Term) → is_lam (head_term f) ≡ false → is_lam f ≡ false
head_lam (var x) p = refl
head_lam (const h) p = refl
head_lam (sort i) p = refl
head_lam (pi a b) p = refl
head_lam (lam a b) p = p
head_lam (app f a) p = refl

pub calm_to : (e : Env) (k : ℕ) (t : Term) → k ≤ uses t → (is_lam (head_term t) ≡ false) ⊎ (k < uses t)
    → ((m : ℕ) → uses t < suc (m + k) → m < uses t → wants e (head_term t) (suc m) ≡ false) → CalmTo e k t
calm_to e zero t l h w = tt
calm_to e (suc k) (var x) l h w = tt
calm_to e (suc k) (const c) l h w = tt
calm_to e (suc k) (sort i) l h w = tt
calm_to e (suc k) (pi a b) l h w = tt
calm_to e (suc k) (lam a b) l h w = tt
calm_to e (suc k) (app f a) l (inl p) w =
    (calm_app e f a (head_lam f p) (w (uses f) (omega arith) (omega arith)), calm_to e k f (omega arith) (inl p) (λ m x y. w m (omega arith) (omega arith)))
calm_to e (suc k) (app f a) l (inr p) w =
    (calm_app e f a (not_lam f (omega arith)) (w (uses f) (omega arith) (omega arith)), calm_to e k f (omega arith) (inr (omega arith)) (λ m x y. w m (omega arith) (omega arith)))
