-- Turns of loading.
use Rattle.std.proofs.Common.{◌≡◌, refl, sym, ap, ◌∙◌, subst, ℕ, List, [], ◌∷◌, ◌++◌, length, arith, Option, Result, Ok, Err, IfOk}
use Rattle.std.specs.Prelude.{IsUtf8, reverse}
use Rattle.std.proofs.lemmas.List.{reverse-append}
use Rattle.nx_host.specs.Files.{FileMap}
use Rattle.rnc_parse.specs.Views.{surface_of}
use Rattle.rng_simplify.specs.declared.fault.SchemaFault.{SchemaFault}
use Rattle.rng_simplify.specs.declared.load.Link.{Link}
use Rattle.rng_simplify.specs.declared.load.Loaded.{Loaded}
use Rattle.rng_simplify.specs.declared.mention.Mention.{Mention as Kept}
use Rattle.rng_simplify.specs.FileChains.{uris_of, IsUnderWay, AreTextLinks, IsAdded, OpensFile, NextUri, GoesOn}
use Rattle.rng_simplify.specs.KeptMentions.{AreTextMentions}
use Rattle.rng_simplify.specs.Simplified.{Answers}
use Rattle.rng_simplify.proofs.Loading.{next_mention, not_next, not_opened, opened, begun, first_refused}
use Rattle.rng_simplify.proofs.Texts.{surface_texts}

-- the last one comes first
pub last_first : {A : Type 0} → (xs ys : List A) (x : A) → ys ≡ xs ++ x ∷ [] → reverse ys ≡ x ∷ reverse xs
last_first xs ys x is = ap reverse is ∙ reverse-append xs (x ∷ [])

module _ (told : Option FileMap) (uri : List ℕ) (old link : Link) (kept : Kept) (outer : List Link) (loaded : List Loaded) where
  -- the next mention leads nowhere
  pub leads_nowhere : (count : ℕ) (fault : SchemaFault) → old.uri ≡ link.uri →
      reverse old.waiting.items ≡ kept ∷ reverse link.waiting.items → IsUnderWay told uri (old ∷ outer) loaded →
      IsUtf8 kept.text → NextUri (uris_of outer) link.uri kept.text (Err fault) → Answers told uri count count (Err fault)
  leads_nowhere count fault same taken under is_text h =
      not_next told uri old link kept outer loaded (next_mention told uri old link kept outer loaded same taken under) count fault
      is_text h

  -- it leads to a file, which is read or refused
  pub leads_to : {A : Type 0} → (other : List ℕ) (before after : ℕ) (links new_links : List Link) (new_loaded : List Loaded)
      (result : Result A SchemaFault) → IsUtf8 kept.inherited → old.uri ≡ link.uri →
      reverse old.waiting.items ≡ kept ∷ reverse link.waiting.items → IsUnderWay told uri (old ∷ outer) loaded →
      NextUri (uris_of outer) link.uri kept.text (Ok other) → reverse links ≡ link ∷ outer →
      OpensFile told other kept.inherited before after links new_links loaded new_loaded result →
      GoesOn told uri before after (reverse new_links) new_loaded result
  leads_to other before after links new_links new_loaded (Ok done) is_text same taken under next links_are opens =
      opened told uri old link kept outer loaded (next_mention told uri old link kept outer loaded same taken under) other opens.0 links
      new_links new_loaded is_text opens.2 next.0 next.2 opens.1 links_are opens.3
  leads_to other before after links new_links new_loaded (Err fault) is_text same taken under next links_are opens =
      not_opened told uri old link kept outer loaded (next_mention told uri old link kept outer loaded same taken under) other before after
      fault next.0 next.1 next.2 opens

-- the texts of a file that was read are UTF-8, and so are those of the chain
pub opened_texts : {A : Type 0} → (told : Option FileMap) (other inherited : List ℕ) (before after : ℕ) (links new_links : List Link)
    (loaded new_loaded : List Loaded) (result : Result A SchemaFault) → IsUtf8 inherited → IsUtf8 other → AreTextLinks (reverse links) →
    OpensFile told other inherited before after links new_links loaded new_loaded result →
    IfOk result (λ _. AreTextLinks (reverse new_links))
opened_texts told other inherited before after links new_links loaded new_loaded (Ok done) namespace_is_text is_text texts opens =
    let added : IsAdded other inherited opens.0 links new_links loaded new_loaded = opens.3 in
    subst (λ ls. AreTextLinks ls) (sym added.links_are) (
      (
        is_text,
        subst (λ ms. AreTextMentions ms) (sym added.waiting_are) (surface_texts inherited namespace_is_text (surface_of opens.0)
            opens.2),
      ),
      texts,
    )
opened_texts told other inherited before after links new_links loaded new_loaded (Err fault) namespace_is_text is_text texts opens = tt

-- the file with which loading begins is refused, or loading goes on
pub begins : {A : Type 0} → (told : Option FileMap) (uri : List ℕ) (before after : ℕ) (links : List Link) (loaded : List Loaded)
    (result : Result A SchemaFault) → IsUtf8 uri → OpensFile told uri [] before after [] links [] loaded result →
    GoesOn told uri before after (reverse links) loaded result
begins told uri before after links loaded (Ok done) is_text opens = begun told uri opens.0 links loaded opens.2 opens.1 opens.3
begins told uri before after links loaded (Err fault) is_text opens = first_refused told uri before after fault is_text opens

pub begins_from : {A : Type 0} → (told : Option FileMap) (uri first inherited : List ℕ) (before after : ℕ) (none links : List Link)
    (nothing loaded : List Loaded) (result : Result A SchemaFault) → IsUtf8 uri → first ≡ uri → inherited ≡ [] → none ≡ [] → nothing ≡ [] →
    OpensFile told first inherited before after none links nothing loaded result →
    GoesOn told uri before after (reverse links) loaded result
begins_from told uri first inherited before after none links nothing loaded result is_text is_first is_inherited is_none is_nothing opens =
    let at_uri : OpensFile told uri inherited before after none links nothing loaded result =
    subst (λ u. OpensFile told u inherited before after none links nothing loaded result) is_first opens in
    let at_inherited : OpensFile told uri [] before after none links nothing loaded result =
    subst (λ ns. OpensFile told uri ns before after none links nothing loaded result) is_inherited at_uri in
    let at_links : OpensFile told uri [] before after [] links nothing loaded result =
    subst (λ ls. OpensFile told uri [] before after ls links nothing loaded result) is_none at_inherited in
    begins told uri before after links loaded result is_text (subst (λ fs. OpensFile told uri [] before after [] links fs loaded result) is_nothing
    at_links)

-- nothing is left where there is nothing
pub none_reversed : {A : Type 0} → (xs : List A) → length xs ≡ 0 → reverse xs ≡ []
none_reversed [] none = refl
none_reversed (x ∷ xs) none = absurd (omega (arith, none))

-- the files and the count are as before
pub answers_alike : (told same_told : Option FileMap) (uri : List ℕ) (before same_before after : ℕ) (fault : SchemaFault) →
    told ≡ same_told → before ≡ same_before → Answers told uri before after (Err fault) →
    Answers same_told uri same_before after (Err fault)
answers_alike told same_told uri before same_before after fault is_told is_before answers =
    subst (λ n. Answers same_told uri n after (Err fault)) is_before (subst (λ files. Answers files uri before after (Err fault)) is_told
    answers)
