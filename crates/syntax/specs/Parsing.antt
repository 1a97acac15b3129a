-- What the parser's functions promise: each follows a reader, and writes what is read.
use Rattle.std.specs.Prelude.{◌≡◌, ℕ, zero, suc, ◌+◌, ◌*◌, ◌<◌, ◌≤◌, max, List, [], ◌∷◌, length, Ok, Err, Result}
use Rattle.std.proofs.Math.Option.{some, none, Option as Maybe}
use Rattle.std.specs.Borrow.{Bor}
use Rattle.syntax.specs.Surface.{Name, Expr, e_full, e_sort, e_pi, e_lam, e_have, e_hole, e_by, expr_stage}
use Rattle.syntax.specs.Tokens.{tokens}
use Rattle.syntax.specs.Grammar.{t_rp, t_lc, t_rc, t_at, t_hole, k_type}
use Rattle.syntax.specs.Tree.{put_name, put_expr}
use Rattle.syntax.specs.Reader.{option, bind, then, eat, read_name, read_number, read_word, Readers, readers, read_atom, read_binder, read_lam}
use Rattle.syntax.specs.Lexing.{Behind}
use Rattle.syntax.specs.Writing.{Appends}
use Rattle.syntax.specs.declared.write.Writer.{Writer}
use Rattle.syntax.specs.declared.problem.Stop.{Stop}
use Rattle.syntax.specs.declared.scan.Word.{Word}
use Rattle.syntax.specs.declared.scan.Number.{Number}
use Rattle.syntax.specs.declared.reading.Read.{Read}
use Rattle.syntax.specs.declared.reading.Link.{Link}
use Rattle.syntax.specs.declared.reading.Link.TheVariants.{More, Last}

-- A given token, a name, a number must come first.
abbrev pub Expects : Name → List ℕ → Result (Bor (List ℕ)) Stop → Type 0
Expects k bs (Ok r) = (eat k (tokens bs) ≡ some (tokens r.now)) × Behind bs r.now
Expects k bs (Err s) = eat k (tokens bs) ≡ none

pub record NameAt (bs : List ℕ) (w : Word) : Type 0 where
  pub reads : read_name (tokens bs) ≡ some (w.name.now, tokens w.rest.now)
  pub shorter : length w.name.now + length w.rest.now ≤ length bs
  pub fewer : length (tokens w.rest.now) < length (tokens bs)
  pub some_bytes : 1 ≤ length w.name.now
  pub short : length w.name.now ≤ 32

abbrev pub ExpectsName : List ℕ → Result Word Stop → Type 0
ExpectsName bs (Ok w) = NameAt bs w
ExpectsName bs (Err s) = read_name (tokens bs) ≡ none

pub record NumberFirst (bs : List ℕ) (n : Number) : Type 0 where
  pub reads : read_number (tokens bs) ≡ some (n.value, tokens n.rest.now)
  pub behind : Behind bs n.rest.now
  pub small : n.value < 1000

abbrev pub ExpectsNumber : List ℕ → Result Number Stop → Type 0
ExpectsNumber bs (Ok n) = NumberFirst bs n
ExpectsNumber bs (Err s) = read_number (tokens bs) ≡ none

-- A function has read a value as the reader f does, whenever that may make enough calls; it has written the value's words behind
-- those that stand, kept its stage, and used no more than the room that the bytes that it has read allow; slack is 1 where it must read something.
pub record Done {A : Type 0} (f : ℕ → List Name → Maybe (A × List Name)) (words : A → List ℕ) (level : A → ℕ) (slack : ℕ)
    (ts : List Name) (budget : ℕ) (before after : Writer) (q : Read) : Type 0 where
  pub value : A
  pub reads : (n : ℕ) → length ts < n → f n ts ≡ some (value, tokens q.rest.now)
  pub wrote : Appends before (words value) after
  pub stage : q.stage ≡ level value
  pub fewer : slack + length (tokens q.rest.now) ≤ length ts
  pub room : after.len + (slack + 4 * length q.rest.now) ≤ before.len + budget

-- The reader f finds nothing, however many calls it may make.
abbrev pub FindsNone : {A : Type 0} → (ℕ → List Name → Maybe A) → List Name → Type 0
FindsNone f ts = (n : ℕ) → length ts < n → f n ts ≡ none

-- Both answers.
abbrev pub Follows : {A : Type 0} → (ℕ → List Name → Maybe (A × List Name)) → (A → List ℕ) → (A → ℕ) → ℕ → List Name → ℕ → Writer → Writer → Result Read Stop → Type 0
Follows f words level slack ts budget before after (Ok q) = Done f words level slack ts budget before after q
Follows f words level slack ts budget before after (Err s) = FindsNone f ts

-- The words of a term.
abbrev pub expr_words : Expr → List ℕ
expr_words a = put_expr a []

-- A function that reads a term as f does.
abbrev pub FollowsExpr : (ℕ → List Name → Maybe (Expr × List Name)) → List ℕ → Writer → Writer → Result Read Stop → Type 0
FollowsExpr f bs before after r = Follows f expr_words expr_stage 1 (tokens bs) (4 * length bs) before after r

-- A reader with one call less for those that it calls.
abbrev pub lower : {A : Type 0} → (Readers → List Name → Maybe A) → ℕ → List Name → Maybe A
lower f zero ts = none
lower f (suc n) ts = f (readers n) ts

-- Atoms without brackets: behind @, behind Type; all of them.
abbrev pub read_full : List Name → Maybe (Expr × List Name)
read_full ts = then (read_name ts) (λ x us. some (e_full x, us))

abbrev pub read_sort : List Name → Maybe (Expr × List Name)
read_sort ts = then (read_number ts) (λ n us. some (e_sort n, us))

abbrev pub read_leaf : List Name → Maybe (Expr × List Name)
read_leaf ts =
    option (eat t_at ts) (option (eat k_type ts) (option (eat t_hole ts) (read_word ts) (λ us. some (e_hole, us))) read_sort) read_full

-- A type and the closing bracket behind it; a row of atoms.
abbrev pub read_bound : Readers → List Name → Maybe (Expr × List Name)
read_bound r ts = then (r.term ts) (λ a us. bind (eat t_rp us) (λ vs. some (a, vs)))

abbrev pub read_uses : Readers → List Name → Maybe (Expr × List Name)
read_uses r ts = then (read_atom r ts) r.row

-- What stands before a body that is still to come: (x : a) -> , fun (x : a) => , have x : a { b }.
pub data Frame : Type 0 where
  f_pi : Name → Expr → Frame
  f_lam : Name → Expr → Frame
  f_have : Name → Expr → Expr → Frame

-- The term, once the body is there.
abbrev pub plug : Frame → Expr → Expr
plug (f_pi x a) b = e_pi x a b
plug (f_lam x a) b = e_lam x a b
plug (f_have x a b) c = e_have x a b c

abbrev pub wrap : Frame → Maybe (Expr × List Name) → Maybe (Expr × List Name)
wrap f none = none
wrap f (some p) = some (plug f p.0, p.1)

-- Its words and its stage.
abbrev pub frame_words : Frame → List ℕ
frame_words (f_pi x a) = 5 ∷ put_name x (expr_words a)
frame_words (f_lam x a) = 6 ∷ put_name x (expr_words a)
frame_words (f_have x a b) = 10 ∷ put_name x (put_expr a (expr_words b))

abbrev pub frame_stage : Frame → ℕ
frame_stage (f_pi x a) = expr_stage a
frame_stage (f_lam x a) = expr_stage a
frame_stage (f_have x a b) = max (expr_stage a) (expr_stage b)

-- A reader behind a word that has been read already: it may call others on all its tokens.
abbrev pub level : {A : Type 0} → (Readers → List Name → Maybe A) → ℕ → List Name → Maybe A
level f n ts = f (readers n) ts

-- A function has read a frame: the reader g finds the frame around what the reader s finds in the tokens behind it. Behind a word
-- that has been read already, d is 1, else 0.
pub record Opened (d : ℕ) (g : Readers → List Name → Maybe (Expr × List Name)) (s : ℕ → List Name → Maybe (Expr × List Name))
    (ts : List Name) (budget : ℕ) (before after : Writer) (q : Read) : Type 0 where
  pub frame : Frame
  pub opens : (n : ℕ) → d + length ts ≤ n → g (readers n) ts ≡ wrap frame (s n (tokens q.rest.now))
  pub wrote : Appends before (frame_words frame) after
  pub stage : q.stage ≡ frame_stage frame
  pub fewer : 1 + length (tokens q.rest.now) ≤ length ts
  pub room : after.len + (1 + 4 * length q.rest.now) ≤ before.len + budget

abbrev pub Opens : (Readers → List Name → Maybe (Expr × List Name)) → (ℕ → List Name → Maybe (Expr × List Name)) → List Name → ℕ → Writer → Writer → Result Read Stop → Type 0
Opens g s ts budget before after (Ok q) = Opened 1 g s ts budget before after q
Opens g s ts budget before after (Err e) = FindsNone (level g) ts

-- A function reads a frame or the last part of a term.
abbrev pub Links : (Readers → List Name → Maybe (Expr × List Name)) → (ℕ → List Name → Maybe (Expr × List Name)) → List ℕ → Writer → Writer → Result Link Stop → Type 0
Links g s bs before after (Ok (More q)) = Opened 0 g s (tokens bs) (4 * length bs) before after q
Links g s bs before after (Ok (Last q)) = Done (lower g) expr_words expr_stage 1 (tokens bs) (4 * length bs) before after q
Links g s bs before after (Err e) = FindsNone (lower g) (tokens bs)

-- The readers of terms and of scripts, by the number of calls.
abbrev pub term_reader : ℕ → List Name → Maybe (Expr × List Name)
term_reader n = (readers n).term

abbrev pub script_reader : ℕ → List Name → Maybe (Expr × List Name)
script_reader n = (readers n).script

-- Behind fun: a bound variable and the body.
abbrev pub read_fun : Readers → List Name → Maybe (Expr × List Name)
read_fun r ts = then (read_binder ts) (read_lam r)

-- Behind by: a script in braces.
abbrev pub read_block : Readers → List Name → Maybe (Expr × List Name)
read_block r ts = bind (eat t_lc ts) (λ us. then (r.script us) (λ a vs. bind (eat t_rc vs) (λ ws. some (e_by a, ws))))
