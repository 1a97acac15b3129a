-- What the parser's functions promise that read declarations: each follows a reader, writes what is read, and notes the names
-- that are declared.
use Rattle.std.specs.Prelude.{◌≡◌, ℕ, ◌+◌, ◌*◌, ◌<◌, ◌≤◌, true, false, List, [], ◌∷◌, ◌++◌, length, take, Some, None, Ok, Err, Option, Result}
use Rattle.std.proofs.Math.Option.{some, none, Option as Maybe}
use Rattle.syntax.specs.Surface.{Name, Expr, Param, ConDecl, Decl, expr_stage, hide_stage, params_stage, stage, names_of, once, listed}
use Rattle.syntax.specs.Tokens.{tokens}
use Rattle.syntax.specs.Grammar.{t_colon, t_rp, t_semi, k_again, shallow, Reads}
use Rattle.syntax.specs.Tree.{put_name, put_params, put_cons, put_decl, decls_words}
use Rattle.syntax.specs.Reader.{bind, then, eat, readers, read_name, read_number, read_hide, read_params, read_decls}
use Rattle.syntax.specs.Parsing.{FindsNone, expr_words}
use Rattle.syntax.specs.Writing.{Appends}
use Rattle.syntax.specs.declared.problem.Stop.{Stop}
use Rattle.syntax.specs.declared.scan.Number.{Number}
use Rattle.syntax.specs.declared.reading.Read.{Read}
use Rattle.syntax.specs.declared.write.Writer.{Writer}
use Rattle.syntax.specs.declared.parse.Parsed.{Parsed}
use Rattle.syntax.specs.declared.limits.NoteRead.{NoteRead}

-- hide n, or nothing.
pub record HideAt (bs : List ℕ) (n : Number) : Type 0 where
  pub reads : read_hide (tokens bs) ≡ some (n.value, tokens n.rest.now)
  pub shorter : length n.rest.now ≤ length bs
  pub fewer : length (tokens n.rest.now) ≤ length (tokens bs)
  pub small : n.value < 1000

abbrev pub Hides : List ℕ → Result Number Stop → Type 0
Hides bs (Ok n) = HideAt bs n
Hides bs (Err s) = read_hide (tokens bs) ≡ none

-- : and a term.
abbrev pub read_typed : ℕ → List Name → Maybe (Expr × List Name)
read_typed n ts = bind (eat t_colon ts) (λ us. (readers n).term us)

-- Behind ( : a parameter.
abbrev pub read_param : ℕ → List Name → Maybe (Param × List Name)
read_param n ts = then (read_name ts) (λ x us. bind (eat t_colon us) (λ vs. then ((readers n).term vs) (λ a ws. bind (eat t_rp ws) (λ xs. some (record { name = x; type = a }, xs)))))

abbrev pub param_words : Param → List ℕ
param_words p = 11 ∷ put_name p.name (expr_words p.type)

abbrev pub param_stage : Param → ℕ
param_stage p = expr_stage p.type

abbrev pub params_words : List Param → List ℕ
params_words ps = put_params ps []

-- A note of a declared name: how many bytes were left behind it, and the name.
pub record Note : Type 0 where
  pub left : ℕ
  pub name : Name

abbrev pub note_words : List Note → List ℕ
note_words [] = []
note_words (n ∷ ns) = n.left ∷ (length n.name ∷ (n.name ++ note_words ns))

abbrev pub note_names : List Note → List Name
note_names [] = []
note_names (n ∷ ns) = n.name ∷ note_names ns

-- A function has read a value that declares names: as Done, with the names noted behind those that stand. Behind a word that has
-- been read already, d is 1, else 0.
pub record Declared {A : Type 0} (d : ℕ) (f : ℕ → List Name → Maybe (A × List Name)) (words : A → List ℕ) (names : A → List Name) (level : A → ℕ)
    (bs : List ℕ) (before after before₂ after₂ : Writer) (q : Read) : Type 0 where
  pub value : A
  pub reads : (n : ℕ) → d + length (tokens bs) ≤ n → f n (tokens bs) ≡ some (value, tokens q.rest.now)
  pub wrote : Appends before (words value) after
  pub notes : List Note
  pub named : note_names notes ≡ names value
  pub noted : Appends before₂ (note_words notes) after₂
  pub stage : q.stage ≡ level value
  pub fewer : 1 + length (tokens q.rest.now) ≤ length (tokens bs)
  pub room : after.len + 4 * length q.rest.now ≤ before.len + 4 * length bs
  pub note_room : after₂.len + 3 * length q.rest.now ≤ before₂.len + 3 * length bs

abbrev pub Declares : {A : Type 0} → ℕ → (ℕ → List Name → Maybe (A × List Name)) → (A → List ℕ) → (A → List Name) → (A → ℕ)
    → List ℕ → Writer → Writer → Writer → Writer → Result Read Stop → Type 0
Declares d f words names level bs before after before₂ after₂ (Ok q) = Declared d f words names level bs before after before₂ after₂ q
Declares d f words names level bs before after before₂ after₂ (Err s) = (n : ℕ) → d + length (tokens bs) ≤ n → f n (tokens bs) ≡ none

-- A name and what it hides.
pub record Head : Type 0 where
  pub name : Name
  pub hidden : ℕ

abbrev pub read_head : ℕ → List Name → Maybe (Head × List Name)
read_head n ts = then (read_name ts) (λ x us. then (read_hide us) (λ h vs. some (record { name = x; hidden = h }, vs)))

abbrev pub head_words : ℕ → Head → List ℕ
head_words tag h = tag ∷ put_name h.name (h.hidden ∷ [])

abbrev pub head_names : Head → List Name
head_names h = h.name ∷ []

abbrev pub head_stage : Head → ℕ
head_stage h = hide_stage h.hidden

-- The words of a declaration, of constructors.
abbrev pub decl_words : Decl → List ℕ
decl_words d = put_decl d []

abbrev pub cons_words : List ConDecl → List ℕ
cons_words cs = put_cons cs []

-- A constructor behind its first look: a name, fields, again n;
abbrev pub read_con : ℕ → List Name → Maybe (ConDecl × List Name)
read_con n ts = then (read_name ts) (λ x us. then (read_params n us) (λ ps vs. bind (eat k_again vs) (λ ws. then (read_number ws) (λ k xs. bind (eat t_semi xs) (λ ys. some (record { name = x; fields = ps; recs = k }, ys))))))

abbrev pub con_words : ConDecl → List ℕ
con_words c = 12 ∷ put_name c.name (put_params c.fields (c.recs ∷ []))

abbrev pub con_name : ConDecl → List Name
con_name c = c.name ∷ []

abbrev pub con_stage : ConDecl → ℕ
con_stage c = params_stage c.fields

-- All declarations, to the end of the tokens: nothing is left behind them.
abbrev pub read_all : ℕ → List Name → Maybe (List Decl × List Name)
read_all n ts = bind (read_decls n ts) (λ ds. some (ds, []))

-- All declarations of the bytes were read and written, their names noted and counted; or there are none that they say.
pub record AllDeclared (bs : List ℕ) (before after before₂ after₂ : Writer) (q : Parsed) : Type 0 where
  pub decls : List Decl
  pub reads : (n : ℕ) → length (tokens bs) < n → read_decls n (tokens bs) ≡ some decls
  pub wrote : Appends before (decls_words decls) after
  pub notes : List Note
  pub named : note_names notes ≡ names_of decls
  pub noted : Appends before₂ (note_words notes) after₂
  pub words : q.words ≡ after.len
  pub stages : q.stage ≡ stage decls
  pub counts : q.count ≡ length decls
  pub fits : after.len ≤ length after.words.now
  pub note_fits : after₂.len ≤ length after₂.words.now

abbrev pub DeclaresAll : List ℕ → Writer → Writer → Writer → Writer → Result Parsed Stop → Type 0
DeclaresAll bs before after before₂ after₂ (Ok q) = AllDeclared bs before after before₂ after₂ q
DeclaresAll bs before after before₂ after₂ (Err s) = FindsNone read_decls (tokens bs)

-- The row of declarations that the text says is written and counted, or there is none.
pub record ParsedPost (t : List ℕ) (after : List ℕ) (p : Parsed) : Type 0 where
  pub decls : List Decl
  pub reads : Reads t decls
  pub words : take p.words after ≡ decls_words decls
  pub fits : p.words ≤ length after
  pub count : p.count ≡ length decls
  pub stage : p.stage ≡ stage decls

abbrev pub Parses : List ℕ → List ℕ → Result Parsed Stop → Type 0
Parses t after (Ok p) = ParsedPost t after p
Parses t after (Err s) = (ds : List Decl) → Reads t ds → ⊥

-- Whether at most 64 brackets are open at once.
abbrev pub Shallow : List ℕ → Option ℕ → Type 0
Shallow t None = shallow 0 (tokens t) ≡ true
Shallow t (Some left) = shallow 0 (tokens t) ≡ false

-- The first note, with the words of those behind it, or none where there is none.
pub record NoteFirst (n : Note) (ns : List Note) (r : NoteRead) : Type 0 where
  pub left : r.left ≡ n.left
  pub name : r.name.now ≡ n.name
  pub rest : r.rest.now ≡ note_words ns

abbrev pub ReadsNote : List Note → Option NoteRead → Type 0
ReadsNote [] None = Unit {0}
ReadsNote [] (Some r) = ⊥
ReadsNote (n ∷ ns) None = ⊥
ReadsNote (n ∷ ns) (Some r) = NoteFirst n ns r

-- Whether a name is among those noted.
abbrev pub Later : Name → List Note → Option ℕ → Type 0
Later x ns None = listed x (note_names ns) ≡ false
Later x ns (Some left) = listed x (note_names ns) ≡ true

-- The names that are noted are distinct, or how many bytes were left behind the first that was declared before.
abbrev pub Distinct : List Note → Option ℕ → Type 0
Distinct ns None = once (note_names ns) ≡ true
Distinct ns (Some left) = once (note_names ns) ≡ false
