-- What the program's words ask for, as far as they were read, and what a run is then.
use Rattle.std.proofs.Common.{◌≡◌, ◌⊎◌, ◌∙◌, ℕ, Bool, true, false, List, [], map, Option, Some, None, refl, sym, ap, subst, inl, inr}
use Rattle.std.specs.Borrow.{Bor}
use Rattle.std.specs.List.{All, list_all}
use Rattle.std.specs.Str.{IsUtf8, is_utf8}
use Rattle.std.proofs.lemmas.List.Sums.{AllPass-from_list_all, list_all-from_AllPass}
use Rattle.std.proofs.lemmas.Str.{IsUtf8-from_is_utf8, is_utf8-from_IsUtf8}
use Rattle.nx_words.specs.Words.{CommandLine, Asks, command_line}
use Rattle.nx_run.specs.declared.script.ScriptRefusal.{ScriptRefusal}
use Rattle.nx_run.specs.declared.status.Status.{Status}
use Rattle.nx_run.specs.declared.status.Status.TheVariants.{Script, Memory}
use Rattle.nx_run.specs.Output.{OutState}
use Rattle.nx_run.specs.Surroundings.{Surroundings}
use Rattle.nx_run.specs.Script.{HoldsOfScript, refusal_line}
use Rattle.nx_run.specs.Run.{IsRunOf, SaysLine, usage_line}
use Rattle.nx_run.proofs.Playing.{appends-nil}

-- words that were read as texts ask for what the texts say
pub asks_for : (words : List (List ℕ)) (texts slice : List (Bor (List ℕ))) (asked : CommandLine) → slice ≡ texts → map (λ (t : Bor (List ℕ)). t.now) texts ≡ words →
    All IsUtf8 words → Some asked ≡ command_line (map (λ (t : Bor (List ℕ)). t.now) slice) → Asks words asked
asks_for words texts slice asked same are utf8 is = record {
  utf8 = utf8;
  form = sym (ap command_line (ap (map (λ (t : Bor (List ℕ)). t.now)) same ∙ are)) ∙ sym is;
}

-- words ask for something, or for nothing
decided : (words : List (List ℕ)) → ((asked : CommandLine) × Asks words asked) ⊎ ((asked : CommandLine) → Asks words asked → ⊥)
decided words = by_text (list_all is_utf8 words) refl
  where
    by_form : All IsUtf8 words → (told : Option CommandLine) → command_line words ≡ told →
        ((asked : CommandLine) × Asks words asked) ⊎ ((asked : CommandLine) → Asks words asked → ⊥)
    by_form utf8 (Some asked) form = inl (asked, record { utf8 = utf8; form = form })
    by_form utf8 None form = inr (λ asked asks. let both : None ≡ Some asked = sym form ∙ asks.form in cc)

    by_text : (text : Bool) → list_all is_utf8 words ≡ text →
        ((asked : CommandLine) × Asks words asked) ⊎ ((asked : CommandLine) → Asks words asked → ⊥)
    by_text true are = by_form (λ i d lt. IsUtf8-from_is_utf8 _ (AllPass-from_list_all is_utf8 words are i d lt)) (command_line words) refl
    by_text false are = inr (λ asked asks.
        let both : true ≡ false = sym (list_all-from_AllPass is_utf8 words (λ i d lt. is_utf8-from_IsUtf8 _ (asks.utf8 i d lt))) ∙ are in cc)

-- so where there was no memory to read them, nothing came of the run, whatever they ask for
pub starved : (words : List (List ℕ)) (old new : Surroundings) (out : OutState) → new ≡ old → IsRunOf words old new out out Memory
starved words old new out same = elim (decided words) [
  | inl asks ↦ inr (inr (inr (record {
    asked = asks.0;
    asks = asks.1;
    unbegun = record { all_stays = same; nothing_written = refl };
    no_fault = refl;
  })))
  | inr wrong ↦ inl (record {
    words_are_wrong = wrong;
    all_stays = same;
    said = (([], usage_line, refl, appends-nil out.bytes), refl);
  })
]

-- the script can't be read, and a line said so, or was to
pub run_unread : (words : List (List ℕ)) (old new : Surroundings) (before after : OutState) (status : Status) (asked : CommandLine) → Asks words asked →
    (cause : ScriptRefusal) → HoldsOfScript cause asked.script old.files new.files → new.views ≡ old.views → new.steps ≡ old.steps →
    SaysLine (refusal_line cause) Script status before after → IsRunOf words old new before after status
run_unread words old new before after status asked asks cause holds views steps said =
    let P : Status → Type 0 = λ s. IsRunOf words old new before after s in
    elim said [
      | inl h ↦ subst P (sym h.0) (record { asked = asked; asks = asks; cause = cause; holds = holds; same_views = views; no_steps = steps; said = h.1 })
      | inr (inl h) ↦ subst P (sym h.0) (inr (inl (record { asked = asked; asks = asks; cause = cause; holds = holds; same_views = views; no_steps = steps; said = h.1 })))
      | inr (inr h) ↦ subst P (sym h.0) (inr (inl (record { asked = asked; asks = asks; cause = cause; holds = holds; same_views = views; no_steps = steps; said = h.1 })))
    ]
