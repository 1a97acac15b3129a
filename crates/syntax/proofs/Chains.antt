-- A term that is read link by link to the right: the frames so far stand before what is still to be read, in the readers, in the
-- words and in the stage. Then the term is whole, or there is none.
use Rattle.std.proofs.Common.{◌≡◌, ℕ, zero, suc, ◌+◌, ◌*◌, ◌<◌, ◌≤◌, max, List, [], ◌∷◌, ◌++◌, length, sym, refl, ap, ◌∙◌, ap₂, append_assoc, append-nil, subst as tr, arith, Bor}
use mathlib.Core.Option.{Option, some, none}
use Rattle.syntax.specs.Surface.{Name, Expr, expr_stage}
use Rattle.syntax.specs.Tokens.{tokens}
use Rattle.syntax.specs.Tree.{put_name, put_expr}
use Rattle.syntax.specs.Reader.{Readers, readers}
use Rattle.syntax.specs.Writing.{Appends}
use Rattle.syntax.specs.Parsing.{Done, FindsNone, Opened, Frame, f_pi, f_lam, f_have, plug, wrap, frame_words, frame_stage, expr_words, lower}
use Rattle.syntax.specs.declared.write.Writer.{Writer}
use Rattle.syntax.specs.declared.reading.Read.{Read}
use Rattle.syntax.proofs.Appending.{append_none, append_then, append_as}
use Rattle.syntax.proofs.TreeWords.{expr_apart, expr_then, name_apart}

-- Several frames, the outermost first.
abbrev pub plugs : List Frame → Expr → Expr
plugs [] a = a
plugs (f ∷ fs) a = plug f (plugs fs a)

abbrev pub wraps : List Frame → Option (Expr × List Name) → Option (Expr × List Name)
wraps [] o = o
wraps (f ∷ fs) o = wrap f (wraps fs o)

abbrev pub frames_words : List Frame → List ℕ
frames_words [] = []
frames_words (f ∷ fs) = frame_words f ++ frames_words fs

abbrev pub frames-stage : List Frame → ℕ
frames-stage [] = 0
frames-stage (f ∷ fs) = max (frame_stage f) (frames-stage fs)

wraps_last : (fs : List Frame) (f : Frame) (o : Option (Expr × List Name)) → wraps (fs ++ (f ∷ [])) o ≡ wraps fs (wrap f o)
wraps_last [] f o = refl
wraps_last (g ∷ fs) f o = ap (wrap g) (wraps_last fs f o)

words_last : (fs : List Frame) (f : Frame) → frames_words fs ++ frame_words f ≡ frames_words (fs ++ (f ∷ []))
words_last [] f = sym (append-nil (frame_words f))
words_last (g ∷ fs) f = append_assoc (frame_words g) _ _ ∙ ap (λ (r : List ℕ). frame_words g ++ r) (words_last fs f)

stage_last : (fs : List Frame) (f : Frame) → frames-stage (fs ++ (f ∷ [])) ≡ max (frames-stage fs) (frame_stage f)
stage_last [] f = omega arith
stage_last (g ∷ fs) f = omega (arith, stage_last fs f)

wraps_none : (fs : List Frame) → wraps fs none ≡ none
wraps_none [] = refl
wraps_none (f ∷ fs) = ap (wrap f) (wraps_none fs)

wraps_some : (fs : List Frame) (a : Expr) (r : List Name) → wraps fs (some (a, r)) ≡ some (plugs fs a, r)
wraps_some [] a r = refl
wraps_some (f ∷ fs) a r = ap (wrap f) (wraps_some fs a r)

-- The words and the stage of a frame around a body.
plug_words : (f : Frame) (a : Expr) → frame_words f ++ expr_words a ≡ expr_words (plug f a)
plug_words (f_pi x a) b = ap (λ (z : List ℕ). 5 ∷ z) (sym (name_apart x _ _) ∙ ap (put_name x) (sym (expr_then a (expr_words b))))
plug_words (f_lam x a) b = ap (λ (z : List ℕ). 6 ∷ z) (sym (name_apart x _ _) ∙ ap (put_name x) (sym (expr_then a (expr_words b))))
plug_words (f_have x a b) c =
    ap (λ (z : List ℕ). 10 ∷ z) (sym (name_apart x _ _) ∙ ap (put_name x) (sym (expr_apart a (expr_words b) (expr_words c)) ∙ ap (put_expr a) (sym (expr_then b (expr_words c)))))

plugs_words : (fs : List Frame) (a : Expr) → frames_words fs ++ expr_words a ≡ expr_words (plugs fs a)
plugs_words [] a = refl
plugs_words (f ∷ fs) a = append_assoc (frame_words f) _ _ ∙ ap (λ (r : List ℕ). frame_words f ++ r) (plugs_words fs a) ∙ plug_words f (plugs fs a)

plug-stage : (f : Frame) (a : Expr) → expr_stage (plug f a) ≡ max (frame_stage f) (expr_stage a)
plug-stage (f_pi x a) b = refl
plug-stage (f_lam x a) b = refl
plug-stage (f_have x a b) c = omega arith

plugs_stage : (fs : List Frame) (a : Expr) → expr_stage (plugs fs a) ≡ max (frames-stage fs) (expr_stage a)
plugs_stage [] a = omega arith
plugs_stage (f ∷ fs) a = plug-stage f (plugs fs a) ∙ (let z : max (frame_stage f) (expr_stage (plugs fs a)) ≡ max (max (frame_stage f) (frames-stage fs)) (expr_stage a) = omega (arith, plugs_stage fs a) in z)

-- Some frames were read from the bytes bs₀, and the bytes bs are left.
pub record Chain (s : ℕ → List Name → Option (Expr × List Name)) (bs₀ : List ℕ) (before after : Writer) (bs : List ℕ) (stage : ℕ) : Type 0 where
  pub frames : List Frame
  pub links : (n : ℕ) → length (tokens bs₀) < n → (m : ℕ) × (length (tokens bs) < m) × (s n (tokens bs₀) ≡ wraps frames (s m (tokens bs)))
  pub wrote : Appends before (frames_words frames) after
  pub stages : stage ≡ frames-stage frames
  pub fewer : length (tokens bs) ≤ length (tokens bs₀)
  pub room : after.len + 4 * length bs ≤ before.len + 4 * length bs₀

pub chain_start : (s : ℕ → List Name → Option (Expr × List Name)) (bs : List ℕ) (before : Writer) → Chain s bs before before bs 0
chain_start s bs before =
    record {
      frames = [];
      links = λ n h. (n, h, refl);
      wrote = append_none before;
      stages = refl;
      fewer = omega arith;
      room = omega arith;
    }

module _ (s : ℕ → List Name → Option (Expr × List Name)) (g : Readers → List Name → Option (Expr × List Name))
    (at_zero : (ts : List Name) → s zero ts ≡ none) (at_suc : (n : ℕ) (ts : List Name) → s (suc n) ts ≡ g (readers n) ts) where
  is_lower : (n : ℕ) (ts : List Name) → s n ts ≡ lower g n ts
  is_lower zero ts = at_zero ts
  is_lower (suc n) ts = at_suc n ts

  -- One more frame.
  one_more : (ts ts₁ ts₂ : List Name) (fs : List Frame) (f : Frame) (n m : ℕ) → length ts₁ < m → s n ts ≡ wraps fs (s m ts₁) → 1 + length ts₂ ≤ length ts₁
      → ((k : ℕ) → 0 + length ts₁ ≤ k → g (readers k) ts₁ ≡ wrap f (s k ts₂)) → (k : ℕ) × (length ts₂ < k) × (s n ts ≡ wraps (fs ++ (f ∷ [])) (s k ts₂))
  one_more ts ts₁ ts₂ fs f n zero h e l o = absurd (let z : ⊥ = omega arith in z)
  one_more ts ts₁ ts₂ fs f n (suc m) h e l o = (m, omega arith, e ∙ ap (wraps fs) (at_suc m ts₁ ∙ o m (omega arith)) ∙ sym (wraps_last fs f (s m ts₂)))

  pub chain_more : (bs₀ : List ℕ) (before o o₁ : Writer) (bs : List ℕ) (stage : ℕ) (q p : Read) → p.rest ≡ q.rest → p.stage ≡ max stage q.stage → Chain s bs₀ before o bs stage
      → Opened 0 g s (tokens bs) (4 * length bs) o o₁ q → Chain s bs₀ before o₁ p.rest.now p.stage
  chain_more bs₀ before o o₁ bs stage q p e₁ e c d = tr (λ (r : Bor (List ℕ)). Chain s bs₀ before o₁ r.now p.stage) (sym e₁)
      (record {
        frames = c.frames ++ (d.frame ∷ []);
        links = λ n h. let l = c.links n h in one_more _ _ _ c.frames d.frame n l.0 l.1 l.2 d.fewer d.opens;
        wrote = append_as (words_last c.frames d.frame) (append_then c.wrote d.wrote);
        stages = e ∙ ap₂ max c.stages d.stage ∙ sym (stage_last c.frames d.frame);
        fewer = omega (arith, c.fewer, d.fewer);
        room = omega (arith, c.room, d.room);
      })

  -- The last part.
  pub chain_last : (bs₀ : List ℕ) (before o o₁ : Writer) (bs : List ℕ) (stage : ℕ) (q p : Read) → p.rest ≡ q.rest → p.stage ≡ max stage q.stage
      → Chain s bs₀ before o bs stage
      → Done (lower g) expr_words expr_stage 1 (tokens bs) (4 * length bs) o o₁ q
      → Done (lower g) expr_words expr_stage 1 (tokens bs₀) (4 * length bs₀) before o₁ p
  chain_last bs₀ before o o₁ bs stage q p e₁ e₃ c d =
      record {
        value = plugs c.frames d.value;
        reads = λ n h. let l = c.links n h in
            sym (is_lower n (tokens bs₀)) ∙ l.2 ∙ ap (wraps c.frames) (is_lower l.0 (tokens bs) ∙ d.reads l.0 l.1) ∙ wraps_some c.frames d.value _
            ∙ ap (λ r. some (plugs c.frames d.value, tokens r.now)) (sym e₁);
        wrote = append_as (plugs_words c.frames d.value) (append_then c.wrote d.wrote);
        stage = e₃ ∙ ap₂ max c.stages d.stage ∙ sym (plugs_stage c.frames d.value);
        fewer = omega (arith, c.fewer, d.fewer, ap (λ r. length (tokens r.now)) e₁);
        room = omega (arith, c.room, d.room, ap (λ r. length r.now) e₁);
      }

  -- There is none.
  pub chain_none : (bs₀ : List ℕ) (before o : Writer) (bs : List ℕ) (stage : ℕ) → Chain s bs₀ before o bs stage → FindsNone (lower g) (tokens bs) → FindsNone (lower g) (tokens bs₀)
  chain_none bs₀ before o bs stage c d n h =
      let l = c.links n h in
      sym (is_lower n (tokens bs₀)) ∙ l.2 ∙ ap (wraps c.frames) (is_lower l.0 (tokens bs) ∙ d l.0 l.1) ∙ wraps_none c.frames
