-- A term used on arguments that are read one after the other: the arguments so far, in the readers, in the words and in the
-- stage; and the term at the end, when the tags of the uses are put before them.
use Rattle.std.proofs.Common.{◌≡◌, ℕ, zero, suc, ◌+◌, ◌*◌, ◌<◌, ◌≤◌, max, List, [], ◌∷◌, ◌++◌, length, replicate, sym, refl, ap, ◌∙◌, append_assoc, append-nil, subst as tr, arith, Bor, length-append}
use mathlib.Core.Option.{Option, some, none}
use lib.ListN.{length-replicate}
use Rattle.syntax.specs.Surface.{Name, Expr, e_app, expr_stage}
use Rattle.syntax.specs.Tokens.{tokens}
use Rattle.syntax.specs.Reader.{Readers, readers}
use Rattle.syntax.specs.Writing.{Appends, Inserts}
use Rattle.syntax.specs.Parsing.{Done, expr_words, lower}
use Rattle.syntax.specs.declared.write.Writer.{Writer}
use Rattle.syntax.specs.declared.reading.Read.{Read}
use Rattle.syntax.proofs.Appending.{append_none, append_then, append_as, append_before}
use Rattle.syntax.proofs.TreeWords.{expr_then}

-- A term used on several.
abbrev pub e_apps : Expr → List Expr → Expr
e_apps f [] = f
e_apps f (a ∷ as₁) = e_apps (e_app f a) as₁

abbrev pub args_words : List Expr → List ℕ
args_words [] = []
args_words (a ∷ as₁) = expr_words a ++ args_words as₁

abbrev pub args-stage : List Expr → ℕ
args-stage [] = 0
args-stage (a ∷ as₁) = max (expr_stage a) (args-stage as₁)

apps_last : (f : Expr) (as₁ : List Expr) (a : Expr) → e_app (e_apps f as₁) a ≡ e_apps f (as₁ ++ (a ∷ []))
apps_last f [] a = refl
apps_last f (b ∷ as₁) a = apps_last (e_app f b) as₁ a

args_last : (as₁ : List Expr) (a : Expr) → args_words as₁ ++ expr_words a ≡ args_words (as₁ ++ (a ∷ []))
args_last [] a = sym (append-nil (expr_words a))
args_last (b ∷ as₁) a = append_assoc (expr_words b) _ _ ∙ ap (λ (r : List ℕ). expr_words b ++ r) (args_last as₁ a)

stage_last : (as₁ : List Expr) (a : Expr) → args-stage (as₁ ++ (a ∷ [])) ≡ max (args-stage as₁) (expr_stage a)
stage_last [] a = omega arith
stage_last (b ∷ as₁) a = omega (arith, stage_last as₁ a)

-- The words and the stage of the whole.
shifted : (n : ℕ) (r : List ℕ) → replicate n 7 ++ (7 ∷ r) ≡ replicate (suc n) 7 ++ r
shifted zero r = refl
shifted (suc n) r = ap (λ (z : List ℕ). 7 ∷ z) (shifted n r)

pub apps_words : (f : Expr) (as₁ : List Expr) → replicate (length as₁) 7 ++ (expr_words f ++ args_words as₁) ≡ expr_words (e_apps f as₁)
apps_words f [] = append-nil (expr_words f)
apps_words f (a ∷ as₁) =
    sym (shifted (length as₁) (expr_words f ++ (expr_words a ++ args_words as₁)))
    ∙ ap (λ (z : List ℕ). replicate (length as₁) 7 ++ (7 ∷ z)) (sym (append_assoc (expr_words f) (expr_words a) (args_words as₁)) ∙ ap (λ (z : List ℕ). z ++ args_words as₁) (sym (expr_then f (expr_words a))))
    ∙ apps_words (e_app f a) as₁

apps-stage : (f : Expr) (as₁ : List Expr) → expr_stage (e_apps f as₁) ≡ max (expr_stage f) (args-stage as₁)
apps-stage f [] = omega arith
apps-stage f (a ∷ as₁) = apps-stage (e_app f a) as₁ ∙ (let z : max (max (expr_stage f) (expr_stage a)) (args-stage as₁) ≡ max (expr_stage f) (max (expr_stage a) (args-stage as₁)) = omega arith in z)

-- Some arguments were read from the bytes bs₁, with which s goes on from any term; the bytes bs are left.
pub record Row (s : ℕ → Expr → List Name → Option (Expr × List Name)) (bs₁ : List ℕ) (before after : Writer) (bs : List ℕ) (stage₁ stage count : ℕ) : Type 0 where
  pub args : List Expr
  pub links : (h : Expr) (n : ℕ) → length (tokens bs₁) < n → (m : ℕ) × (length (tokens bs) < m) × (s n h (tokens bs₁) ≡ s m (e_apps h args) (tokens bs))
  pub wrote : Appends before (args_words args) after
  pub stages : stage ≡ max stage₁ (args-stage args)
  pub counts : count ≡ length args
  pub fewer : length (tokens bs) ≤ length (tokens bs₁)
  pub room : after.len + (count + 4 * length bs) ≤ before.len + 4 * length bs₁

module _ (s : ℕ → Expr → List Name → Option (Expr × List Name)) where
  -- No argument yet.
  pub row_start : (bs : List ℕ) (before : Writer) (stage : ℕ) → Row s bs before before bs stage stage 0
  row_start bs before stage =
      record {
        args = [];
        links = λ h n l. (n, l, refl);
        wrote = append_none before;
        stages = omega arith;
        counts = refl;
        fewer = omega arith;
        room = omega arith;
      }

  -- One more argument.
  next_link : (ts₀ ts₁ ts₂ : List Name) (g h a : Expr) (n m : ℕ) → length ts₁ < m → s n g ts₀ ≡ s m h ts₁ → 1 + length ts₂ ≤ length ts₁
      → ((k : ℕ) → length ts₁ ≤ k → s (suc k) h ts₁ ≡ s k (e_app h a) ts₂) → (k : ℕ) × (length ts₂ < k) × (s n g ts₀ ≡ s k (e_app h a) ts₂)
  next_link ts₀ ts₁ ts₂ g h a n zero l e u o = absurd (let z : ⊥ = omega arith in z)
  next_link ts₀ ts₁ ts₂ g h a n (suc m) l e u o = (m, omega arith, e ∙ o m (omega arith))

  pub row_more : (bs₁ : List ℕ) (before o o₁ : Writer) (bs bs₂ : List ℕ) (stage₁ stage stage₂ stage₃ count : ℕ) (a : Expr)
      → Row s bs₁ before o bs stage₁ stage count
      → ((h : Expr) (k : ℕ) → length (tokens bs) ≤ k → s (suc k) h (tokens bs) ≡ s k (e_app h a) (tokens bs₂))
      → Appends o (expr_words a) o₁ → stage₂ ≡ expr_stage a → stage₃ ≡ max stage stage₂ → 1 + length (tokens bs₂) ≤ length (tokens bs) → o₁.len + (1 + 4 * length bs₂) ≤ o.len + 4 * length bs
      → Row s bs₁ before o₁ bs₂ stage₁ stage₃ (count + 1)
  row_more bs₁ before o o₁ bs bs₂ stage₁ stage stage₂ stage₃ count a c e w st st₃ l r =
      record {
        args = c.args ++ (a ∷ []);
        links = λ g n h. let k = c.links g n h in let j = next_link (tokens bs₁) (tokens bs) (tokens bs₂) g (e_apps g c.args) a n k.0 k.1 k.2 l (e (e_apps g c.args)) in
            (j.0, j.1, j.2 ∙ ap (λ x. s j.0 x (tokens bs₂)) (apps_last g c.args a));
        wrote = append_as (args_last c.args a) (append_then c.wrote w);
        stages = (let z : stage₃ ≡ max stage₁ (args-stage (c.args ++ (a ∷ []))) = omega (arith, c.stages, st, st₃, stage_last c.args a) in z);
        counts = omega (arith, c.counts, length-append c.args (a ∷ []));
        fewer = omega (arith, c.fewer, l);
        room = omega (arith, c.room, r);
      }

  -- The same bytes under another name.
  pub row_as : (bs₁ : List ℕ) (before o : Writer) (r p : Bor (List ℕ)) (stage₁ stage count : ℕ) → p ≡ r → Row s bs₁ before o r.now stage₁ stage count → Row s bs₁ before o p.now stage₁ stage count
  row_as bs₁ before o r p stage₁ stage count e = tr (λ (q : Bor (List ℕ)). Row s bs₁ before o q.now stage₁ stage count) (sym e)

  -- No argument is read where one must be: nothing is found.
  pub row_none : (bs₁ : List ℕ) (before o : Writer) (bs : List ℕ) (stage₁ stage count : ℕ) → Row s bs₁ before o bs stage₁ stage count
      → ((h : Expr) (k : ℕ) → length (tokens bs) ≤ k → s (suc k) h (tokens bs) ≡ none) → (h : Expr) (n : ℕ) → length (tokens bs₁) < n → s n h (tokens bs₁) ≡ none
  row_none bs₁ before o bs stage₁ stage count c e h n l = let k = c.links h n l in k.2 ∙ at_suc k.0 k.1
    where
      at_suc : (m : ℕ) → length (tokens bs) < m → s m (e_apps h c.args) (tokens bs) ≡ none
      at_suc zero l = absurd (let z : ⊥ = omega arith in z)
      at_suc (suc m) l = e (e_apps h c.args) m (omega arith)

  -- No more arguments behind a first term: the tags of the uses are put before the words.
  pub row_end : (f₁ f : ℕ → List Name → Option (Expr × List Name)) (ts₀ : List Name) (budget : ℕ) (o₀ o₁ : Writer) (q : Read) (o o₂ : Writer) (bs : List ℕ) (stage count : ℕ) (p : Read)
      → o₀.len ≤ length o₀.words.now → (d : Done f₁ expr_words expr_stage 1 ts₀ budget o₀ o₁ q) → Row s q.rest.now o₁ o bs q.stage stage count
      → p.rest.now ≡ bs → p.stage ≡ stage
      → ((n : ℕ) → length ts₀ < n → (m : ℕ) × (length (tokens q.rest.now) < m) × (f n ts₀ ≡ s m d.value (tokens q.rest.now)))
      → ((h : Expr) (k : ℕ) → s (suc k) h (tokens bs) ≡ some (h, tokens bs))
      → Inserts o o₀.len (replicate count 7) o₂
      → Done f expr_words expr_stage 1 ts₀ budget o₀ o₂ p
  row_end f₁ f ts₀ budget o₀ o₁ q o o₂ bs stage count p l₁ d c e₁ e₂ g last w =
      record {
        value = e_apps d.value c.args;
        reads = λ n h. let j = g n h in let k = c.links d.value j.0 j.1 in
            j.2 ∙ k.2 ∙ at_suc k.0 k.1 ∙ ap (λ (z : List ℕ). some (e_apps d.value c.args, tokens z)) (sym e₁);
        wrote = whole;
        stage = e₂ ∙ c.stages ∙ ap (λ (k : ℕ). max k (args-stage c.args)) d.stage ∙ sym (apps-stage d.value c.args);
        fewer = omega (arith, d.fewer, c.fewer, ap (λ (z : List ℕ). length (tokens z)) e₁);
        room = omega (arith, d.room, c.room, whole.ends, both.ends, ap length e₁, lens);
      }
    where
      both : Appends o₀ (expr_words d.value ++ args_words c.args) o
      both = append_then d.wrote c.wrote

      at_suc : (m : ℕ) → length (tokens bs) < m → s m (e_apps d.value c.args) (tokens bs) ≡ some (e_apps d.value c.args, tokens bs)
      at_suc zero h = absurd (let z : ⊥ = omega arith in z)
      at_suc (suc m) h = last (e_apps d.value c.args) m

      is_apps : replicate count 7 ++ (expr_words d.value ++ args_words c.args) ≡ expr_words (e_apps d.value c.args)
      is_apps = ap (λ (k : ℕ). replicate k 7 ++ (expr_words d.value ++ args_words c.args)) c.counts ∙ apps_words d.value c.args

      lens : length (expr_words (e_apps d.value c.args)) ≡ count + length (expr_words d.value ++ args_words c.args)
      lens = ap length (sym is_apps) ∙ length-append (replicate count 7) _ ∙ ap (λ (k : ℕ). k + length (expr_words d.value ++ args_words c.args)) (length-replicate count 7)

      whole : Appends o₀ (expr_words (e_apps d.value c.args)) o₂
      whole = append_as is_apps (append_before (replicate count 7) l₁ both w)

-- Where the call of the first term goes one level down.
pub lower_link : (g : Readers → List Name → Option (Expr × List Name)) (s : ℕ → Expr → List Name → Option (Expr × List Name)) (ts₀ ts : List Name) (a : Expr)
    → ((n : ℕ) → length ts₀ ≤ n → g (readers n) ts₀ ≡ s n a ts) → 1 + length ts ≤ length ts₀ → (n : ℕ) → length ts₀ < n → (m : ℕ) × (length ts < m) × (lower g n ts₀ ≡ s m a ts)
lower_link g s ts₀ ts a e l zero h = absurd (let z : ⊥ = omega arith in z)
lower_link g s ts₀ ts a e l (suc n) h = (n, omega arith, e n (omega arith))
