-- The turns of the loop that finds the step at which a frame comes off the stack.
use Rattle.std.proofs.Common.{◌≡◌, ℕ, suc, ◌+◌, ◌<◌, ◌≤◌, Bool, true, false, ◌⊎◌, List, length, drop, Some, None, Option as Maybe, refl, sym, ap, ◌∙◌, subst as tr, inl, inr, arith}
use Rattle.std.proofs.lemmas.List.{drop_at}
use Rattle.theory.specs.Terms.{Term, app}
use Rattle.theory.specs.Environment.{Env}
use Rattle.theory.proofs.WeakHead.{needs_arg}
use Rattle.terms.specs.Words.{put, At, Holds}
use Rattle.reduction.specs.Store.{EnvAt}
use Rattle.reduction.specs.Spines.{Fires}
use Rattle.reduction.specs.Stepping.{frame, mark_of, IsFrame, Findable}
use Rattle.std.specs.Option.{option_or}
use Rattle.reduction.specs.declared.find.Kind.TheVariants.{Find}
use Rattle.reduction.specs.declared.find.Frame.{Frame}
use Rattle.reduction.proofs.Finding.{words}
use Rattle.reduction.proofs.Passing.{Pass}
use Rattle.reduction.proofs.Resuming.{LastNext, OrNext, frame_next, fires, stays, keeps, again_none, again_some}
use Rattle.reduction.proofs.Turning.{Passes, weight, open_hit}

-- What was read is the frame that stands there.
abbrev pub Reads : List ℕ → Frame → Type 0
Reads fs f = (m c n : ℕ) (gs : List ℕ) → fs ≡ frame m c n gs → IsFrame f m c n

-- The application and its last argument that a frame speaks of.
whole_at : (e : Env) (ws pre₀ r : List ℕ) (t : Term) (place : ℕ) (hit : Maybe ℕ) (fs : List ℕ) (x : LastNext e ws pre₀ r t place hit fs) → At ws x.c (app x.fun x.arg) (words x.items r)
whole_at e ws pre₀ r t place hit fs x = record { stands = ap (drop x.c) x.whole ∙ drop_at x.front (put (app x.fun x.arg) (words x.items r)) x.c x.fronted }

arg_at : (e : Env) (ws pre₀ r : List ℕ) (t : Term) (place : ℕ) (hit : Maybe ℕ) (fs : List ℕ) (x : LastNext e ws pre₀ r t place hit fs) → At ws place x.arg (words x.items r)
arg_at e ws pre₀ r t place hit fs x = record { stands = ap (drop place) x.reads ∙ drop_at x.pre (put x.arg (words x.items r)) place x.placed }

-- By the mark that was read.
by_last : {D : Type 0} (e : Env) (ws pre₀ r : List ℕ) (t : Term) (place before : ℕ) (hit : Maybe ℕ) (fs : List ℕ) (f : Frame) → before ≡ 0 → 0 < length fs → Reads fs f → (f.kind ≡ Find → ⊥) → Pass e ws pre₀ r t place before hit fs
    → ((x : LastNext e ws pre₀ r t place hit fs) → IsFrame f 1 x.c x.n → D) → D
by_last {D} e ws pre₀ r t place before hit fs f b l rd m p k = go (frame_next e ws pre₀ r t place before hit fs b l p)
  where
    go : LastNext e ws pre₀ r t place hit fs ⊎ OrNext e ws pre₀ r t place hit fs → D
    go (inl x) = k x (rd 1 x.c x.n x.gs x.is)
    go (inr x) = absurd (m (rd 0 x.c x.n x.gs x.is).kind)

by_or : {D : Type 0} (e : Env) (ws pre₀ r : List ℕ) (t : Term) (place before : ℕ) (hit : Maybe ℕ) (fs : List ℕ) (f : Frame) → before ≡ 0 → 0 < length fs → Reads fs f → f.kind ≡ Find → Pass e ws pre₀ r t place before hit fs
    → ((x : OrNext e ws pre₀ r t place hit fs) → IsFrame f 0 x.c x.n → D) → D
by_or {D} e ws pre₀ r t place before hit fs f b l rd m p k = go (frame_next e ws pre₀ r t place before hit fs b l p)
  where
    go : LastNext e ws pre₀ r t place hit fs ⊎ OrNext e ws pre₀ r t place hit fs → D
    go (inl x) = absurd (let z = ap mark_of (sym m ∙ (rd 1 x.c x.n x.gs x.is).kind) in omega arith)
    go (inr x) = k x (rd 0 x.c x.n x.gs x.is)

-- An earlier find.
or_none : (index store heap : List ℕ) (at place before : ℕ) (fs : List ℕ) (f : Frame) → before ≡ 0 → 0 < length fs → Reads fs f → f.kind ≡ Find → Passes index store heap at place before None fs
    → Passes index store heap at place f.behind (Some f.place) (drop 6 fs)
or_none index store heap at place before fs f b l rd m p e front r t v h q =
    by_or e heap front r t place before None fs f b l rd m (p e front r t v h q) λ x i.
    tr (λ z. Pass e heap front r t place f.behind (Some f.place) z) (sym (ap (drop 6) x.is))
    (tr (λ z. Pass e heap front r t place z (Some f.place) x.gs) (sym i.behind) (tr (λ z. Pass e heap front r t place x.n (Some z) x.gs) (sym i.place) (again_none e heap front r t place fs x)))

or_some : (index store heap : List ℕ) (at place before c : ℕ) (fs : List ℕ) (f : Frame) → before ≡ 0 → 0 < length fs → Reads fs f → f.kind ≡ Find → Passes index store heap at place before (Some c) fs
    → Passes index store heap at place f.behind (Some c) (drop 6 fs)
or_some index store heap at place before c fs f b l rd m p e front r t v h q =
    by_or e heap front r t place before (Some c) fs f b l rd m (p e front r t v h q) λ x i.
    tr (λ z. Pass e heap front r t place f.behind (Some c) z) (sym (ap (drop 6) x.is))
    (tr (λ z. Pass e heap front r t place z (Some c) x.gs) (sym i.behind) (again_some e heap front r t place c fs x))

pub or_keeps : (index store heap : List ℕ) (at place before : ℕ) (hit : Maybe ℕ) (fs : List ℕ) (f : Frame) → before ≡ 0 → 0 < length fs → Reads fs f → f.kind ≡ Find → Passes index store heap at place before hit fs
    → Passes index store heap at place f.behind (option_or hit (Some f.place)) (drop 6 fs)
or_keeps index store heap at place before None fs f b l rd m p = or_none index store heap at place before fs f b l rd m p
or_keeps index store heap at place before (Some c) fs f b l rd m p = or_some index store heap at place before c fs f b l rd m p

-- Then there is a find.
pub or_closed : (hit : Maybe ℕ) (c : ℕ) → open_hit (option_or hit (Some c)) ≡ 0
or_closed None c = refl
or_closed (Some x) c = refl

-- A last argument: the whole fires, or it does not.
abbrev pub Fired : (index store heap : List ℕ) (c place : ℕ) → Bool → Type 0
Fired index store heap c place b = (e : Env) (f a : Term) (x y : List ℕ) → EnvAt index store e → At heap c (app f a) x → At heap place a y → needs_arg e f a ≡ true → Fires e f a b

pub last_fires : (index store heap : List ℕ) (at place before : ℕ) (hit : Maybe ℕ) (fs : List ℕ) (f : Frame) → before ≡ 0 → 0 < length fs → Reads fs f → (f.kind ≡ Find → ⊥) → Passes index store heap at place before hit fs
    → Fired index store heap f.place place true → Passes index store heap at place (f.behind + 1) (Some f.place) (drop 6 fs)
last_fires index store heap at place before hit fs f b l rd m p k e front r t v h q =
    by_last e heap front r t place before hit fs f b l rd m (p e front r t v h q) λ x i.
    let (u, is) = k e x.fun x.arg _ _ v (tr (λ z. At heap z (app x.fun x.arg) (words x.items r)) (sym i.place) (whole_at e heap front r t place hit fs x)) (arg_at e heap front r t place hit fs x) x.needs in
    tr (λ z. Pass e heap front r t place (f.behind + 1) (Some f.place) z) (sym (ap (drop 6) x.is))
    (tr (λ z. Pass e heap front r t place z (Some f.place) x.gs) (let z : suc x.n ≡ f.behind + 1 = omega (arith, i.behind) in z)
    (tr (λ z. Pass e heap front r t place (suc x.n) (Some z) x.gs) (sym i.place) (fires e heap front r t place hit fs x u is)))

pub last_stays : (index store heap : List ℕ) (at place before : ℕ) (fs : List ℕ) (f : Frame) → before ≡ 0 → 0 < length fs → Reads fs f → (f.kind ≡ Find → ⊥) → Passes index store heap at place before None fs
    → Fired index store heap f.place place false → Passes index store heap at place (f.behind + 1) None (drop 6 fs)
last_stays index store heap at place before fs f b l rd m p k e front r t v h q =
    by_last e heap front r t place before None fs f b l rd m (p e front r t v h q) λ x i.
    let is = k e x.fun x.arg _ _ v (tr (λ z. At heap z (app x.fun x.arg) (words x.items r)) (sym i.place) (whole_at e heap front r t place None fs x)) (arg_at e heap front r t place None fs x) x.needs in
    tr (λ z. Pass e heap front r t place (f.behind + 1) None z) (sym (ap (drop 6) x.is))
    (tr (λ z. Pass e heap front r t place z None x.gs) (let z : suc x.n ≡ f.behind + 1 = omega (arith, i.behind) in z) (stays e heap front r t place fs x is))

pub last_keeps : (index store heap : List ℕ) (at place before c : ℕ) (fs : List ℕ) (f : Frame) → before ≡ 0 → 0 < length fs → Reads fs f → (f.kind ≡ Find → ⊥) → Passes index store heap at place before (Some c) fs
    → Fired index store heap f.place place false → Passes index store heap at place 1 None (frame 0 c f.behind (drop 6 fs))
last_keeps index store heap at place before c fs f b l rd m p k e front r t v h q =
    by_last e heap front r t place before (Some c) fs f b l rd m (p e front r t v h q) λ x i.
    let is = k e x.fun x.arg _ _ v (tr (λ z. At heap z (app x.fun x.arg) (words x.items r)) (sym i.place) (whole_at e heap front r t place (Some c) fs x)) (arg_at e heap front r t place (Some c) fs x) x.needs in
    tr (λ z. Pass e heap front r t place 1 None (frame 0 c f.behind z)) (sym (ap (drop 6) x.is))
    (tr (λ z. Pass e heap front r t place 1 None (frame 0 c z x.gs)) (sym i.behind) (keeps e heap front r t place c fs x is))

-- What the witness says: the frame is whole, its weight, and what stands at its places.
pub record Popped (heap : List ℕ) (place : ℕ) (fs : List ℕ) (f : Frame) : Type 0 where
  pub long : 6 ≤ length fs
  pub light : weight (drop 6 fs) + 1 ≤ weight fs
  pub heavy : (f.kind ≡ Find → ⊥) → weight (drop 6 fs) + 3 ≤ weight fs
  pub whole : (f.kind ≡ Find → ⊥) → Holds heap f.place
  pub arg : (f.kind ≡ Find → ⊥) → Holds heap place

pub popped : (index store heap : List ℕ) (at place before : ℕ) (hit : Maybe ℕ) (fs : List ℕ) (stack : ℕ) (f : Frame) → Findable index store heap at stack → before ≡ 0 → 0 < length fs → Reads fs f
    → Passes index store heap at place before hit fs → Popped heap place fs f
popped index store heap at place before hit fs stack f g b l rd p =
    go (frame_next g.env heap g.front g.rest g.term place before hit fs b l (p g.env g.front g.rest g.term g.env_at g.here g.placed))
  where
    go : LastNext g.env heap g.front g.rest g.term place hit fs ⊎ OrNext g.env heap g.front g.rest g.term place hit fs → Popped heap place fs f
    go (inl x) =
        let i = rd 1 x.c x.n x.gs x.is in
        let w : weight fs ≡ 3 + weight (drop 6 fs) = ap weight x.is ∙ ap (λ z. 3 + weight (drop 6 z)) (sym x.is) in
        record {
          long = omega (arith, ap length x.is);
          light = omega (arith, w);
          heavy = λ _. omega (arith, w);
          whole = λ _. record { term = app x.fun x.arg; rest = words x.items g.rest; at = tr (λ z. At heap z (app x.fun x.arg) (words x.items g.rest)) (sym i.place) (whole_at g.env heap g.front g.rest g.term place hit fs x) };
          arg = λ _. record { term = x.arg; rest = words x.items g.rest; at = arg_at g.env heap g.front g.rest g.term place hit fs x };
        }
    go (inr x) =
        let i = rd 0 x.c x.n x.gs x.is in
        let w : weight fs ≡ 1 + weight (drop 6 fs) = ap weight x.is ∙ ap (λ z. 1 + weight (drop 6 z)) (sym x.is) in
        record { long = omega (arith, ap length x.is); light = omega (arith, w); heavy = λ z. absurd (z i.kind); whole = λ z. absurd (z i.kind); arg = λ z. absurd (z i.kind) }

pub frame_long : (index store heap : List ℕ) (at place before : ℕ) (hit : Maybe ℕ) (fs : List ℕ) (stack : ℕ) → Findable index store heap at stack → before ≡ 0 → 0 < length fs → Passes index store heap at place before hit fs → 6 ≤ length fs
frame_long index store heap at place before hit fs stack g b l p =
    go (frame_next g.env heap g.front g.rest g.term place before hit fs b l (p g.env g.front g.rest g.term g.env_at g.here g.placed))
  where
    go : LastNext g.env heap g.front g.rest g.term place hit fs ⊎ OrNext g.env heap g.front g.rest g.term place hit fs → 6 ≤ length fs
    go (inl x) = omega (arith, ap length x.is)
    go (inr x) = omega (arith, ap length x.is)
