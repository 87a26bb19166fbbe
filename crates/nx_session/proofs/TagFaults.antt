-- Faults behind commands on tags.
use Rattle.std.proofs.Common.{◌≡◌, ℕ, ◌+◌, ◌<◌, ◌≤◌, List, [], ◌∷◌, ◌++◌, length, map, Option, refl, sym, ap, subst, ◌∙◌, arith}
use Rattle.std.specs.List.{AllByRecursion}
use Rattle.std.specs.Str.{IsUtf8}
use Rattle.nx_base.specs.Text.{IsPlace, edited}
use Rattle.nx_base.specs.Tokens.{tokens_of, AreTokensFrom}
use Rattle.nx_base.specs.declared.change.Change.{Change}
use Rattle.nx_base.specs.declared.fault.Fault.{Fault}
use Rattle.nx_base.specs.declared.fault.Kind.TheVariants as kinds
use Rattle.nx_base.specs.declared.token.Token.{Token}
use Rattle.nx_events.specs.Among.{faults_among}
use Rattle.nx_events.specs.Items.{items_of_text}
use Rattle.nx_events.specs.Tags.{start_name}
use Rattle.nx_events.specs.declared.flaw.Resolved.{Resolved}
use Rattle.nx_events.specs.declared.flaw.Resolved.TheVariants.{Named}
use Rattle.nx_recover.specs.Faults.{AreFaultsOf}
use Rattle.nx_recovery.specs.ItemFaults.{IsAgainstSchema, NoneAgainstSchema, SameEventsHaveItemFaults}
use Rattle.nx_recovery.specs.Uniqueness.{RecoveryIsOne}
use Rattle.nx_scan.specs.Borders.{TokensJoin}
use Rattle.nx_script.specs.QualifiedNames.{IsQName}
use Rattle.nx_session.specs.Editing.{IsEdited}
use Rattle.nx_session.specs.Editor.{EditorState, schema_of}
use Rattle.nx_session.specs.TagFaults.{AreOfUnclosedElements, ResolvesAlike, TakesOneFault, KeepsNoFaults}
use Rattle.nx_session.specs.Tagging.{AreMade}
use Rattle.nx_session.proofs.Finishing.{TakesOne, takes_one}
use Rattle.nx_session.proofs.QNames.{tag_name}
use Rattle.nx_script.specs.declared.command.Command.TheVariants.{Finish, Rename}
use Rattle.nx_script.specs.declared.reply.Reply.TheVariants.{Silent}
use Rattle.nx_tags.proofs.QNames.{qname_is_name}
use Rattle.nx_tags.specs.Answers.{Renames, innermost_name_at}
use Rattle.nx_tags.specs.Changing.{inserting, end_tag}
use Rattle.nx_tags.specs.Free.{IsFree}
use Rattle.nx_tags.specs.Renamed.{IsRenamed, resolved_in, RenamingGives, RenamingKeepsEvents}
use Rattle.nx_text.specs.Changing.{changed}
use Rattle.rng_core.specs.Patterns.{Language}

-- ---- what is made

made_text : (changes : List Change) (old new : EditorState) → AreMade changes old new → new.text ≡ changed old.text changes
made_text [] old new h = ap (λ (e : EditorState). e.text) h
made_text (change ∷ others) old new (between, edit, rest) =
    made_text others between new rest ∙ ap (λ t. changed t others) (ap (λ (e : EditorState). e.text) edit.editor)

made_schema : (changes : List Change) (old new : EditorState) → AreMade changes old new → schema_of new ≡ schema_of old
made_schema [] old new h = ap schema_of h
made_schema (change ∷ others) old new (between, edit, rest) = made_schema others between new rest ∙ ap schema_of edit.editor

told_there : (old new : EditorState) (changes : List Change) (faults : List Fault) → AreMade changes old new → AreFaultsOf (schema_of old) (changed old.text changes) faults
    → AreFaultsOf (schema_of new) new.text faults
told_there old new changes faults made h =
    let S : Option Language → Type 0 = λ g. AreFaultsOf g new.text faults in
    let T : List ℕ → Type 0 = λ t. AreFaultsOf (schema_of old) t faults in
    subst S (sym (made_schema changes old new made)) (subst T (sym (made_text changes old new made)) h)

told_here : (old new : EditorState) (changes : List Change) (faults : List Fault) → AreMade changes old new → AreFaultsOf (schema_of new) new.text faults
    → AreFaultsOf (schema_of old) (changed old.text changes) faults
told_here old new changes faults made h =
    let S : Option Language → Type 0 = λ g. AreFaultsOf g new.text faults in
    let T : List ℕ → Type 0 = λ t. AreFaultsOf (schema_of old) t faults in
    subst T (made_text changes old new made) (subst S (made_schema changes old new made) h)

-- ---- finishing

unclosed_own : (faults : List Fault) → AreOfUnclosedElements faults → NoneAgainstSchema faults
unclosed_own [] h = tt
unclosed_own (fault ∷ faults) h = ((λ against. subst IsAgainstSchema h.0 against), unclosed_own faults h.1)

one_fewer : TokensJoin → SameEventsHaveItemFaults → RecoveryIsOne → (schema : Option Language) (text : List ℕ) (at : ℕ) (faults left : List Fault)
    → IsUtf8 text → IsPlace text at
    → IsFree text at → at ≡ length text → AreFaultsOf schema text faults → AreOfUnclosedElements faults
    → AreFaultsOf schema (edited text at at (end_tag (innermost_name_at text at))) left → length left + 1 ≡ length faults
one_fewer join own one schema text at faults left utf8 place free end are unclosed then_are =
    let P : ℕ → Type 0 = λ n. IsPlace text n in
    let F : ℕ → Type 0 = λ n. IsFree text n in
    let A : ℕ → Type 0 = λ n. AreFaultsOf schema (edited text n n (end_tag (innermost_name_at text n))) left in
    let takes : TakesOne text (edited text (length text) (length text) (end_tag (innermost_name_at text (length text)))) =
    takes_one join text utf8 (subst P end place) (subst F end free) in
    let after : List ℕ = edited text (length text) (length text) (end_tag (innermost_name_at text (length text))) in
    let both = own schema text after faults are (unclosed_own faults unclosed) takes.events in
    let same = one schema after left (faults_among (items_of_text after)) (subst A end then_are) both.1 in
    let fewer = takes.fewer in
    let here = ap (λ (fs : List Fault). length fs) both.0 in
    let there = ap (λ (fs : List Fault). length fs) same in
    omega arith

pub finish_takes_one : TokensJoin → SameEventsHaveItemFaults → RecoveryIsOne → (old new : EditorState) (at : ℕ) (changes : List Change)
    → IsUtf8 old.text → IsPlace old.text at
    → IsFree old.text at → changes ≡ inserting at (end_tag (innermost_name_at old.text at)) ∷ [] → AreMade changes old new → TakesOneFault old (Finish at) Silent new
finish_takes_one join own one old new at changes utf8 place free is made = λ faults left end are unclosed then_are.
    let A : List Change → Type 0 = λ cs. AreFaultsOf (schema_of old) (changed old.text cs) left in
    one_fewer join own one (schema_of old) old.text at faults left utf8 place free end are unclosed (subst A is (told_here old new changes left made then_are))

-- ---- the token at a place

lies_behind : (len at : ℕ) (front : List Token) (t : Token) (rest : List Token) → AreTokensFrom len at (front ++ t ∷ rest) → at ≤ t.from
unfolding AreTokensFrom
lies_behind len at [] t rest h = let from = h.0 in omega arith
lies_behind len at (x ∷ front) t rest h = let more = lies_behind len (at + length x.bytes) front t rest h.1 in omega arith

record SamePart (one two : List Token) (t u : Token) : Type 0 where
  front : one ≡ two
  token : t ≡ u

one_part : (len at : ℕ) (one two : List Token) (t u : Token) (rest others : List Token) → AreTokensFrom len at (one ++ t ∷ rest)
    → AllByRecursion (λ (x : Token). 0 < length x.bytes) (one ++ t ∷ rest) → one ++ t ∷ rest ≡ two ++ u ∷ others → t.from ≡ u.from → SamePart one two t u
unfolding AreTokensFrom
one_part len at [] [] t u rest others lie some e from = record { front = refl; token = (let same : t ≡ u = cc in same) }
one_part len at [] (y ∷ two) t u rest others lie some e from =
    let same : rest ≡ two ++ u ∷ others = cc in
    let behind = lies_behind len (at + length t.bytes) two u others (subst (λ ts. AreTokensFrom len (at + length t.bytes) ts) same lie.1) in
    let byte = some.0 in
    let here = lie.0 in
    absurd (omega arith)
one_part len at (x ∷ one) [] t u rest others lie some e from =
    let same : x ≡ u = cc in
    let behind = lies_behind len (at + length x.bytes) one t rest lie.1 in
    let byte = some.0 in
    let here = lie.0 in
    let there : x.from ≡ u.from = ap (λ (k : Token). k.from) same in
    absurd (omega arith)
one_part len at (x ∷ one) (y ∷ two) t u rest others lie some e from =
    let same : x ≡ y = cc in
    let tail : one ++ t ∷ rest ≡ two ++ u ∷ others = cc in
    let more = one_part len (at + length x.bytes) one two t u rest others lie.1 some.1 tail from in
    record { front = ap (λ ts. x ∷ ts) more.front ∙ ap (λ k. k ∷ two) same; token = more.token }

-- ---- renaming

module _ (join : TokensJoin) (own : SameEventsHaveItemFaults) (gives : RenamingGives) (keeps : RenamingKeepsEvents) where
  pub rename_keeps_none : (old new : EditorState) (at : ℕ) (name : List ℕ) (changes : List Change) → IsUtf8 old.text → IsQName name
      → Renames old.text at name changes → AreMade changes old new → KeepsNoFaults old (Rename at name) Silent new
  rename_keeps_none old new at name changes utf8 fit renames made = λ alike none.
      let text : List ℕ = old.text in
      let after : List ℕ = changed text changes in
      let renamed = gives text name at changes utf8 (qname_is_name name (tag_name name fit)) renames in
      let all = join text utf8 in
      let part = one_part (length text) 0 alike.before renamed.before alike.tag renamed.tag alike.behind renamed.behind
      (subst (λ ts. AreTokensFrom (length text) 0 ts) alike.split all.1)
      (subst (λ ts. AllByRecursion (λ (x : Token). 0 < length x.bytes) ts) alike.split all.2) (sym alike.split ∙ renamed.split) (alike.from ∙ sym renamed.from) in
      let was : resolved_in renamed.before renamed.tag (start_name renamed.tag.bytes) ≡ Named alike.expanded =
      ap (λ b. resolved_in b renamed.tag (start_name renamed.tag.bytes)) (sym part.front)
      ∙ ap (λ (t : Token). resolved_in alike.before t (start_name t.bytes)) (sym part.token) ∙ alike.was in
      let is : resolved_in renamed.before renamed.tag name ≡ Named alike.expanded =
      ap (λ b. resolved_in b renamed.tag name) (sym part.front) ∙ ap (λ (t : Token). resolved_in alike.before t name) (sym part.token) ∙ alike.is in
      let kept = keeps text name at changes renamed alike.expanded was is in
      let both = own (schema_of old) text after [] none tt (sym kept.0) in
      let empty : faults_among (items_of_text after) ≡ [] = kept.1 ∙ ap (map _) (sym both.0) in
      let P : List Fault → Type 0 = λ fs. AreFaultsOf (schema_of old) after fs in
      told_there old new changes [] made (subst P empty both.1)
