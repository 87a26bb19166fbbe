-- A machine's way through a text.
use Rattle.std.proofs.Common.{◌≡◌, ℕ, zero, suc, ◌+◌, ◌-◌, ◌<◌, ◌≤◌, List, [], ◌∷◌, ◌++◌, length, map, refl, sym, ap, subst, ◌∙◌, arith, append_assoc}
use Rattle.std.specs.Prelude.{IsUtf8}
use Rattle.std.proofs.lemmas.Str.{IsCharBoundary-start, IsUtf8-between}
use Rattle.nx_base.specs.Rules.{Rules, RulesLaws, LaterLaws, Lexeme, lexeme_of, IsLexeme}
use Rattle.nx_base.specs.Running.{CutsTo, after_all}
use Rattle.nx_base.specs.Text.{IsPlace}
use Rattle.nx_base.specs.Tokens.{cut, end_of, tokens_from}
use Rattle.nx_base.specs.declared.token.Token.{Token}
use Rattle.nx_scan.proofs.Every.{cut-is_token}
use Rattle.nx_scan.proofs.Joined.{tokens-go_on}
use Rattle.nx_scan.proofs.OwnBytes.{cut-own}
use Rattle.nx_complete.specs.Walking.{IsBehind, IsBefore}

-- ---- tokens one behind another

reaches : (text : List ℕ) (from to : ℕ) (tokens : List Lexeme) → CutsTo text from tokens to → from ≤ to
reaches text from to [] cuts = omega arith
reaches text from to (k ∷ ks) cuts = let more = reaches text (from + length k.bytes) to ks cuts.1.1.1 in omega arith

cuts-append : (text : List ℕ) (from via to : ℕ) (ks ls : List Lexeme) → CutsTo text from ks via → CutsTo text via ls to → CutsTo text from (ks ++ ls) to
cuts-append text from via to [] ls front back = let P : ℕ → Type 0 = λ x. CutsTo text x ls to in subst P (sym front) back
cuts-append text from via to (k ∷ ks) ls front back =
    (front.0, (front.1.0, (front.1.1.0, cuts-append text (from + length k.bytes) via to ks ls front.1.1.1 back)))

-- a token of at least one byte that ends at a place
pub record IsNext (text : List ℕ) (at : ℕ) (token : Token) : Type 0 where
  pub from : token.from ≡ at
  pub some : 0 < length token.bytes
  pub fits : at + length token.bytes ≤ length text
  pub border : IsPlace text (at + length token.bytes)
  pub utf8 : IsUtf8 token.bytes
  pub kind : IsLexeme (lexeme_of token)

pub next : (text : List ℕ) (at : ℕ) (token : Token) → IsUtf8 text → IsPlace text at → at < length text → token ≡ cut text at → IsNext text at token
next text at token utf8 place within is =
    let P : Token → Type 0 = λ k. IsNext text at k in
    let here = cut-is_token text at utf8 place within in
    let same : end_of (cut text at) ≡ at + length (cut text at).bytes = ap (λ n. n + length (cut text at).bytes) here.from in
    let Q : ℕ → Type 0 = λ n. IsPlace text n in
    let border = subst Q same here.border in
    subst P (sym is) (record {
      from = here.from;
      some = here.some;
      fits = border.0;
      border = border;
      utf8 = subst IsUtf8 (sym here.bytes) (IsUtf8-between text at (end_of (cut text at)) utf8 (omega arith) place here.border);
      kind = (_, cut-own text at utf8 place within);
    })

-- what lies between two borders, and the tokens from the second on
pub record Splits (text : List ℕ) (from to : ℕ) (tokens : List Lexeme) : Type 0 where
  pub front : List Token
  pub is : tokens_from text from ≡ front ++ tokens_from text to
  pub lexemes : map lexeme_of front ≡ tokens

pub splits : (text : List ℕ) (from to : ℕ) (tokens : List Lexeme) → IsUtf8 text → CutsTo text from tokens to → Splits text from to tokens
splits text from to [] utf8 cuts = record { front = []; is = ap (tokens_from text) cuts; lexemes = refl }
splits text from to (k ∷ ks) utf8 cuts =
    let here = cut-is_token text from utf8 cuts.0 cuts.1.0 in
    let bytes : length k.bytes ≡ length (cut text from).bytes = ap (λ (x : Lexeme). length x.bytes) cuts.1.1.0 in
    let ends : end_of (cut text from) ≡ from + length k.bytes = ap (λ n. n + length (cut text from).bytes) here.from ∙ ap (λ n. from + n) (sym bytes) in
    let w = splits text (from + length k.bytes) to ks utf8 cuts.1.1.1 in
    record {
      front = cut text from ∷ w.front;
      is = tokens-go_on text from utf8 cuts.0 cuts.1.0 ∙ ap (λ n. cut text from ∷ tokens_from text n) ends ∙ ap (λ (l : List Token). cut text from ∷ l) w.is;
      lexemes = ap (λ (l : List Lexeme). lexeme_of (cut text from) ∷ l) w.lexemes ∙ ap (λ (j : Lexeme). j ∷ ks) (sym cuts.1.1.0);
    }

-- ---- a machine's run over one token more

module _ {M : Type 0} (rules : Rules M) where
  after-more : (m : M) (ks : List Lexeme) (k : Lexeme) → after_all rules m (ks ++ k ∷ []) ≡ rules.after (after_all rules m ks) k
  after-more m [] k = refl
  after-more m (j ∷ ks) k = after-more (rules.after m j) ks k

  back-within : RulesLaws rules → (text : List ℕ) (from to : ℕ) (m : M) (ks : List Lexeme) → CutsTo text from ks to → rules.back m ≤ from → rules.back (after_all rules m ks) ≤ to
  back-within laws text from to m [] cuts within = omega arith
  back-within laws text from to m (k ∷ ks) cuts within =
      let one = laws.after_back m k in
      back-within laws text (from + length k.bytes) to (rules.after m k) ks cuts.1.1.1 (omega arith)

module _ {S M : Type 0} (is0 : S → Type 0) (means0 : S → M) (r0 : Rules M) (is1 : S → Type 0) (means1 : S → M) (r1 : Rules M) where
  -- a run that is pending at the border began in the text
  pub ready : RulesLaws r0 → (text : List ℕ) (at : ℕ) (s : S) → IsBehind is0 means0 r0 text at s → r0.back (means0 s) ≤ at
  ready laws text at s h =
      let within = back-within r0 laws text 0 at r0.first h.tokens h.cuts (let f = laws.first_back in omega arith) in
      rw h.meaning within

  pub passed : (text : List ℕ) (at : ℕ) (s t : S) (token : Token) → IsUtf8 text → IsBehind is0 means0 r0 text at s → at < length text → token ≡ cut text at → r1 ≡ r0 → is1 t →
      means1 t ≡ r0.after (means0 s) (lexeme_of token) → IsBehind is1 means1 r1 text (at + length token.bytes) t
  passed text at s t token utf8 h within is same i m =
      let n = next text at token utf8 h.place within is in
      let P : Rules M → Type 0 = λ r. IsBehind is1 means1 r text (at + length token.bytes) t in
      let one : CutsTo text at (lexeme_of token ∷ []) (at + length token.bytes) = (h.place, (within, (ap lexeme_of is, refl))) in
      subst P (sym same) (record {
        place = n.border;
        tokens = h.tokens ++ lexeme_of token ∷ [];
        cuts = cuts-append text 0 at (at + length token.bytes) h.tokens (lexeme_of token ∷ []) h.cuts one;
        is_one = i;
        meaning = m ∙ ap (λ x. r0.after x (lexeme_of token)) h.meaning ∙ sym (after-more r0 r0.first h.tokens (lexeme_of token));
      })

-- the token that was found
pub found : {S M : Type 0} (is : S → Type 0) (means : S → M) (r : Rules M) (text : List ℕ) (here at : ℕ) (s : S) (token : Token) → IsUtf8 text → IsBehind is means r text here s →
    here < length text → here < at → token ≡ cut text here → at - here ≤ length token.bytes → IsBefore is means r text at s token
found is means r text here at s token utf8 h within before cuts long =
    let n = next text here token utf8 h.place within cuts in
    record { border = here; behind = h; is = cuts; from = n.from; begun = omega (arith, n.from, before); inside = omega (arith, n.from, before, long) }

-- on the way to a place
pub record IsOnWay {S M : Type 0} (on : Type 0) (is : S → Type 0) (means : S → M) (r : Rules M) (text : List ℕ) (here at : ℕ) (s : S) : Type 0 where
  pub later : on
  pub behind : IsBehind is means r text here s
  pub before : here < at
