-- The way towards a place, token by token.
use Rattle.std.proofs.Common.{◌≡◌, ◌↔◌, ℕ, ◌<◌, ◌≤◌, Bool, true, ◌⊎◌, inl, inr, List, [], ◌∷◌, ◌++◌, length, sym, ◌∙◌, ap, subst, arith}
use Rattle.std.specs.Prelude.{IsTrue}
use Rattle.std.specs.Str.{IsUtf8}
use Rattle.std.proofs.lemmas.Bool.{cases_lt}
use Rattle.nx_base.specs.Text.{IsPlace}
use Rattle.nx_base.specs.Tokens.{cut, end_of, tokens_of}
use Rattle.nx_base.specs.declared.token.Token.{Token}
use Rattle.nx_events.specs.Items.{state_behind}
use Rattle.nx_events.specs.Runs.{run_back}
use Rattle.nx_events.specs.declared.state.EventState.{EventState}
use Rattle.nx_scan.specs.Markup.{IsEnded}
use Rattle.nx_scan.proofs.Every.{cut-is_token}
use Rattle.nx_tags.specs.Parts.{ending_by}
use Rattle.nx_tags.specs.Reading.{IsRead, IsOpen, IsCutIn, IfEnded, starts_by_kind}
use Rattle.nx_tags.proofs.Opened.{opened_more}
use Rattle.nx_tags.proofs.Reading.{start_ends_well, one_more, front_more, ended_more, read_border, border_lies}

pub record IsOnWay (text : List ℕ) (first at place : ℕ) (state : EventState) (starts : List ℕ) (ended : Bool) : Type 0 where
  pub read : IsRead text place state
  pub opened : IsOpen text first (ending_by place (tokens_of text)) starts
  pub before : place ≤ at
  pub well : (place < at) ⊎ IfEnded text place ended

module _ (text : List ℕ) (utf8 : IsUtf8 text) where
  pub begun : (first at : ℕ) (state : EventState) (starts : List ℕ) → (first < at) ⊎ (first ≡ 0) → IsRead text first state →
      IsOpen text first (ending_by first (tokens_of text)) starts → IsOnWay text first at first state starts true
  begun first at state starts before read opened = record {
    read = read;
    opened = opened;
    before = elim before [ inl lt ↦ (omega arith) | inr e ↦ (omega arith) ];
    well = elim before [
      | inl lt ↦ inl lt
      | inr e ↦ elim (cases_lt first at) [ inl lt ↦ inl lt | inr past ↦ inr (subst (λ n. IfEnded text n true) (sym e) (start_ends_well text utf8)) ]
    ];
  }

  -- the token at a border
  pub record IsNext (place : ℕ) (state : EventState) (token : Token) : Type 0 where
    pub from : token.from ≡ place
    pub back : run_back state.run ≤ token.from
    pub fits : end_of token ≤ length text
    pub later : place < end_of token
    pub border : IsPlace text (end_of token)

  pub next : (place : ℕ) (state : EventState) (token : Token) → IsRead text place state → place < length text → token ≡ cut text place → IsNext place state token
  next place state token read within is =
      let here = cut-is_token text place utf8 read.border within in
      let from = here.from in
      let some = here.some in
      let back = read.back in
      let border = here.border in
      let fits = border.0 in
      subst (λ t. IsNext place state t) (sym is)
      (record { from = from; back = omega arith; fits = fits; later = omega arith; border = border })

  pub passed : (first at place : ℕ) (state : EventState) (starts : List ℕ) (ended : Bool) → IsOnWay text first at place state starts ended → place < length text →
      (token : Token) → token ≡ cut text place → end_of token ≤ at → (new : EventState) (left : List ℕ) → new ≡ state_behind state token →
      left ≡ starts_by_kind token.kind token.from (length state.elements) (length new.elements) starts →
      (more : Bool) → IsTrue more ↔ IsEnded token.kind → IsOnWay text first at (end_of token) new left more
  passed first at place state starts ended way within token is le new left new_is left_is more ends =
      let read : IsRead text (end_of token) new =
      subst (λ s. IsRead text (end_of token) s) (sym new_is)
      (subst (λ t. IsRead text (end_of t) (state_behind state t)) (sym is) (one_more text utf8 place state way.read within)) in
      let all : ending_by (end_of token) (tokens_of text) ≡ ending_by place (tokens_of text) ++ token ∷ [] =
      subst (λ t. ending_by (end_of t) (tokens_of text) ≡ ending_by place (tokens_of text) ++ t ∷ []) (sym is) (front_more text utf8 place state way.read within) in
      let n = next place state token way.read within is in
      let from = n.from in
      let cut_in : IsCutIn text token = record {
        place = subst (λ m. IsPlace text m) (sym from) way.read.border;
        within = omega arith;
        is = is ∙ ap (cut text) (sym from);
      } in
      record {
        read = read;
        opened = subst (λ xs. IsOpen text first (ending_by (end_of token) (tokens_of text)) xs) (sym left_is)
            (opened_more text first (ending_by place (tokens_of text)) (ending_by (end_of token) (tokens_of text)) token starts place (end_of token) state new
            way.opened cut_in all (border_lies text utf8 place (read_border text utf8 place state way.read))
            (border_lies text utf8 (end_of token) (read_border text utf8 (end_of token) new read))
            way.read.state_is read.state_is);
        before = le;
        well = inr (subst (λ t. IfEnded text (end_of t) more) (sym is)
            (ended_more text utf8 place state way.read within more (subst (λ (t : Token). IsTrue more ↔ IsEnded t.kind) is ends)));
      }

  pub at_border : (first at place : ℕ) (state : EventState) (starts : List ℕ) (ended : Bool) → IsOnWay text first at place state starts ended → at ≤ place →
      IsRead text at state × IsOpen text first (ending_by at (tokens_of text)) starts × IfEnded text at ended
  at_border first at place state starts ended way past =
      let before = way.before in
      let same : place ≡ at = omega arith in (
        subst (λ n. IsRead text n state) same way.read,
        subst (λ n. IsOpen text first (ending_by n (tokens_of text)) starts) same way.opened,
        subst (λ n. IfEnded text n ended) same (elim way.well [ inl lt ↦ absurd (omega arith) | inr e ↦ e ]),
      )
