-- Character data inside of an element, whole and in two parts.
use Rattle.std.proofs.Common.{◌≡◌, ℕ, ◌+◌, ◌-◌, ◌<◌, true, Option, Some, None, List, [], ◌∷◌, ◌++◌, length, take, drop, refl, sym, ◌∙◌, ap, subst}
use Rattle.std.proofs.Common.{arith, append_assoc, append-nil, length-drop}
use Rattle.std.specs.Prelude.{IfOk, Result, Ok, Err}
use Rattle.std.proofs.lemmas.Bool.{lt-ltb}
use Rattle.std.proofs.lemmas.List.{drop_at, length-take-le}
use Rattle.nx_base.specs.Tokens.{end_of}
use Rattle.nx_base.specs.declared.fault.Fault.{Fault}
use Rattle.nx_base.specs.declared.token.Token.{Token}
use Rattle.nx_base.specs.declared.token.TokenKind.{TokenKind}
use Rattle.nx_base.specs.declared.token.TokenKind.TheVariants as kinds
use Rattle.nx_events.specs.Among.{faults_among}
use Rattle.nx_events.specs.CharacterFaults.{character_faults}
use Rattle.nx_events.specs.Faults.{faults_as_items}
use Rattle.nx_events.specs.Items.{text_items, items_by_kind, items_of_token, state_by_kind, state_behind}
use Rattle.nx_events.specs.OpenTags.{string_by_kind, string_in}
use Rattle.nx_events.specs.Runs.{run_joined}
use Rattle.nx_events.specs.Strings.{string_of}
use Rattle.nx_events.specs.declared.reading.Reading.TheVariants.{Text}
use Rattle.nx_events.specs.declared.state.EventState.{EventState}
use Rattle.nx_events.specs.declared.state.Run.{Run}
use Rattle.nx_tags.specs.Free.{HasNoFault}
use Rattle.nx_tags.specs.Parts.{front_half, back_half}
use Rattle.nx_tags.specs.Reading.{IsCutWellInside, FoundBetween, FoundInside}
use Rattle.nx_tags.proofs.OpenNames.{data_keeps_elements}

-- ---- its items

only_faults : (fs : List Fault) → faults_among (faults_as_items fs) ≡ fs
only_faults [] = refl
only_faults (f ∷ fs) = ap (λ xs. f ∷ xs) (only_faults fs)

text_gives : (state : EventState) (token : Token) → 0 < length state.elements → text_items state token ≡ faults_as_items (character_faults Text token.from token.bytes)
unfolding text_items
text_gives state token some = rw (lt-ltb 0 (length state.elements) some) (append-nil (faults_as_items (character_faults Text token.from token.bytes)))

data_gives : (state : EventState) (token : Token) → token.kind ≡ kinds.Text → 0 < length state.elements →
    items_of_token state token ≡ faults_as_items (character_faults Text token.from token.bytes)
unfolding items_of_token
data_gives state token is some = ap (λ k. items_by_kind k state token) is ∙ text_gives state token some

-- no fault is no item, in whatever element
pub nothing_given : (state other : EventState) (token : Token) → token.kind ≡ kinds.Text → 0 < length state.elements → 0 < length other.elements →
    HasNoFault state token → items_of_token other token ≡ []
nothing_given state other token is some other_some h =
    data_gives other token is other_some
    ∙ ap faults_as_items (sym (only_faults (character_faults Text token.from token.bytes)) ∙ ap faults_among (sym (data_gives state token is some)) ∙ h)

pub no_fault : (state other : EventState) (token : Token) → token.kind ≡ kinds.Text → 0 < length state.elements → 0 < length other.elements →
    items_of_token state token ≡ [] → HasNoFault other token
no_fault state other token is some other_some h =
    ap faults_among (data_gives other token is other_some ∙ sym (data_gives state token is some) ∙ h)

-- ---- the states behind it

joins : (state : EventState) (token : Token) → token.kind ≡ kinds.Text → 0 < length state.elements →
    state_behind state token ≡ record state { came = true; run = run_joined (string_in token) (length token.bytes) state.run }
unfolding state_behind
joins state token is some =
    ap (λ k. state_by_kind k state token) is
    ∙ joins_text state token some
    ∙ ap (λ k. record state { came = true; run = run_joined (string_by_kind k token.bytes) (length token.bytes) state.run }) (sym is)
  where
    joins_text : (state : EventState) (token : Token) → 0 < length state.elements →
        state_by_kind kinds.Text state token ≡ record state { came = true; run = run_joined (string_of Text token.bytes) (length token.bytes) state.run }
    joins_text state token some = rw (lt-ltb 0 (length state.elements) some) refl

cancel : (xs ys zs : List ℕ) → xs ++ ys ≡ xs ++ zs → ys ≡ zs
cancel xs ys zs e = sym (drop_at xs ys (length xs) refl) ∙ ap (drop (length xs)) e ∙ drop_at xs zs (length xs) refl

-- of a run and character data: put in whole, or in two parts
runs_same : (run : Option Run) (whole front back : List ℕ) (n m k : ℕ) → n ≡ m + k → whole ≡ front ++ back → run_joined whole n run ≡ run_joined back k (run_joined front m run)
runs_same None whole front back n m k len same =
    ap (λ (s : List ℕ). Some (record { string = s; len = n; gap = 0 })) same
    ∙ ap (λ (l : ℕ). Some (record { string = front ++ back; len = l; gap = 0 })) (omega arith)
runs_same (Some run) whole front back n m k len same =
    ap (λ (s : List ℕ). Some (record { string = s; len = run.gap + run.len + n; gap = 0 }))
    (ap (λ xs. run.string ++ xs) same ∙ sym (append_assoc run.string front back))
    ∙ ap (λ (l : ℕ). Some (record { string = run.string ++ front ++ back; len = l; gap = 0 })) (omega arith)

abbrev string_or : Option Run → List ℕ
string_or None = []
string_or (Some run) = run.string

strings_same : (run : Option Run) (whole front back : List ℕ) (n m k : ℕ) → run_joined whole n run ≡ run_joined back k (run_joined front m run) → whole ≡ front ++ back
strings_same None whole front back n m k e = ap string_or e
strings_same (Some run) whole front back n m k e = cancel run.string whole (front ++ back) (ap string_or e ∙ append_assoc run.string front back)

module _ (state : EventState) (at : ℕ) (token : Token) (begins : token.from < at) (ends : at < end_of token) (is : token.kind ≡ kinds.Text) (some : 0 < length state.elements) where
  lengths : length token.bytes ≡ length (front_half at token).bytes + length (back_half at token).bytes
  lengths =
      let front = length-take-le (at - token.from) token.bytes (omega arith) in
      let back = length-drop (at - token.from) token.bytes in
      omega arith

  pub still_open : 0 < length (state_behind state (front_half at token)).elements
  still_open = subst (λ xs. 0 < length xs) (sym (data_keeps_elements state (front_half at token) is)) some

  whole_state : state_behind state token ≡ record state { came = true; run = run_joined (string_in token) (length token.bytes) state.run }
  whole_state = joins state token is some

  both_states : state_behind (state_behind state (front_half at token)) (back_half at token)
      ≡ record state {
        came = true;
        run = run_joined (string_in (back_half at token)) (length (back_half at token).bytes)
            (run_joined (string_in (front_half at token)) (length (front_half at token).bytes) state.run);
      }
  both_states =
      joins (state_behind state (front_half at token)) (back_half at token) is still_open
      ∙ ap (λ (s : EventState). record s { came = true; run = run_joined (string_in (back_half at token)) (length (back_half at token).bytes) s.run })
      (joins state (front_half at token) is some)

  pub same_states : string_in token ≡ string_in (front_half at token) ++ string_in (back_half at token) →
      state_behind state token ≡ state_behind (state_behind state (front_half at token)) (back_half at token)
  same_states h =
      whole_state
      ∙ ap (λ (r : Option Run). record state { came = true; run = r })
      (runs_same state.run (string_in token) (string_in (front_half at token)) (string_in (back_half at token)) (length token.bytes)
      (length (front_half at token).bytes) (length (back_half at token).bytes) lengths h)
      ∙ sym both_states

  pub same_strings : state_behind state token ≡ state_behind (state_behind state (front_half at token)) (back_half at token) →
      string_in token ≡ string_in (front_half at token) ++ string_in (back_half at token)
  same_strings h =
      strings_same state.run (string_in token) (string_in (front_half at token)) (string_in (back_half at token)) (length token.bytes)
      (length (front_half at token).bytes) (length (back_half at token).bytes)
      (ap (λ (s : EventState). s.run) (sym whole_state ∙ h ∙ both_states))

  -- ---- what is asked of the two parts

  pub parted_well : items_of_token state token ≡ [] → items_of_token state (front_half at token) ≡ [] →
      items_of_token (state_behind state (front_half at token)) (back_half at token) ≡ [] →
      state_behind state token ≡ state_behind (state_behind state (front_half at token)) (back_half at token) → IsCutWellInside state at token
  parted_well whole front back same = (
    some,
    record {
      kind = is;
      whole = no_fault state (state_behind state (front_half at token)) token is some still_open whole;
      front = no_fault state (state_behind state (front_half at token)) (front_half at token) is some still_open front;
      back = no_fault (state_behind state (front_half at token)) (state_behind state (front_half at token)) (back_half at token) is still_open still_open back;
      string = same_strings same;
    },
  )

  pub whole_given : IsCutWellInside state at token → items_of_token state token ≡ []
  whole_given h = nothing_given (state_behind state (front_half at token)) state token is still_open some h.1.whole

  pub front_given : IsCutWellInside state at token → items_of_token state (front_half at token) ≡ []
  front_given h = nothing_given (state_behind state (front_half at token)) state (front_half at token) is still_open some h.1.front

  pub back_given : IsCutWellInside state at token → items_of_token (state_behind state (front_half at token)) (back_half at token) ≡ []
  back_given h = nothing_given (state_behind state (front_half at token)) (state_behind state (front_half at token)) (back_half at token) is still_open still_open h.1.back

  -- so what is found between them is what is found inside of the token
  pub inside_found : (found : Option EventState) → FoundBetween state token (front_half at token) (back_half at token) found → FoundInside state at token found
  inside_found None h =
      λ inside. h (record {
        quiet = whole_given inside;
        quiet_front = front_given inside;
        quiet_back = back_given inside;
        same = same_states inside.1.string;
      })
  inside_found (Some between) h = (parted_well h.0.quiet h.0.quiet_front h.0.quiet_back h.0.same, h.1)

-- the same of an answer, by the two halves that were made
pub inside_answered : {E : Type 0} (state : EventState) (at : ℕ) (token front back : Token) → token.from < at → at < end_of token → token.kind ≡ kinds.Text →
    0 < length state.elements → front ≡ front_half at token → back ≡ back_half at token → (result : Result (Option EventState) E) →
    IfOk result (FoundBetween state token front back) → IfOk result (FoundInside state at token)
inside_answered state at token front back begins ends is some f b (Err e) h = tt
inside_answered state at token front back begins ends is some f b (Ok found) h =
    inside_found state at token begins ends is some found
    (subst (λ t. FoundBetween state token t (back_half at token) found) f (subst (λ t. FoundBetween state token front t found) b h))

-- the halves as they are made of a token's bytes
pub front_made : (at : ℕ) (token half : Token) (bytes part : List ℕ) → half ≡ record { kind = kinds.Text; from = token.from; bytes = part } → token.kind ≡ kinds.Text →
    bytes ≡ token.bytes → part ≡ take (at - token.from) bytes → half ≡ front_half at token
front_made at token half bytes part e is whole p =
    e ∙ ap (λ (xs : List ℕ). record { kind = kinds.Text; from = token.from; bytes = xs }) (p ∙ ap (take (at - token.from)) whole)
    ∙ ap (λ (k : TokenKind). record { kind = k; from = token.from; bytes = take (at - token.from) token.bytes }) (sym is)

pub back_made : (at : ℕ) (token half : Token) (bytes part : List ℕ) → half ≡ record { kind = kinds.Text; from = at; bytes = part } → token.kind ≡ kinds.Text →
    bytes ≡ token.bytes → part ≡ drop (at - token.from) bytes → half ≡ back_half at token
back_made at token half bytes part e is whole p =
    e ∙ ap (λ (xs : List ℕ). record { kind = kinds.Text; from = at; bytes = xs }) (p ∙ ap (drop (at - token.from)) whole)
    ∙ ap (λ (k : TokenKind). record { kind = k; from = at; bytes = drop (at - token.from) token.bytes }) (sym is)
