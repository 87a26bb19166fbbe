-- Schemas that are located, and rules that can't be followed.
use Rattle.std.proofs.Common.{◌≡◌, ℕ, zero, suc, Bool, true, List, [], ◌∷◌, Option, Some, None, Result, Ok, Err, refl, sym, subst, ◌∙◌, inl, inr, arith}
use Rattle.std.proofs.lemmas.Bool.{and_parts, ltb-true}
use Rattle.std.specs.Prelude.{◌&&◌, nat_lt}
use Rattle.std.specs.Str.{IsAscii, IsUtf8}
use Rattle.nx_base.specs.declared.locate_fault.LocateFault.{LocateFault}
use Rattle.nx_base.specs.declared.locate_fault.LocateFault.TheVariants as rules
use Rattle.nx_host.specs.Files.{FileMap}
use Rattle.nx_host.specs.Uri.{Joins, IsBadUri}
use Rattle.nx_host.specs.declared.uri.UriFault.{UriFault}
use Rattle.nx_host.specs.declared.uri.UriFault.TheVariants as uri_fault
use Rattle.nx_locate.specs.Locates.{Locates}
use Rattle.nx_script.specs.Replies.{LocatedIsText, RefusalIsText, refusal_of_rules, refusal_of_uri}
use Rattle.nx_script.specs.declared.reply.Refusal.{Refusal}
use Rattle.nx_script.specs.declared.reply.Refusal.TheVariants.{BadUri, NoMemory}
use Rattle.nx_script.specs.declared.reply.Reply.TheVariants.{Located}
use Rattle.nx_session.specs.Editor.{EditorState, FilesState, work_folder}
use Rattle.nx_session.specs.Locating.{RulesAre, LacksRules, LocatingAnswers, IsRefusedAuto, SchemaAutoStep}
use Rattle.nx_session.specs.Schemas.{HoldsFile, IsRefusedFor}
use Rattle.nx_session.proofs.Filing.{same-files}

-- what is located is UTF-8
pub located_text : (told : Option FileMap) (given : Option (List ℕ)) (document text : List ℕ) (before after : ℕ) (found : Option (List ℕ))
    → Locates told given document text before after (Ok found) → LocatedIsText found
located_text told None document text before after None h = tt
located_text told None document text before after (Some uri) h = absurd h
located_text told (Some given) document text before after None h = tt
located_text told (Some given) document text before after (Some uri) h = h.0

-- and so are the texts of a refusal
pub unlocated_text : (told : Option FileMap) (given : Option (List ℕ)) (document text : List ℕ) (before after : ℕ) (fault : LocateFault)
    → Locates told given document text before after (Err fault) → RefusalIsText (refusal_of_rules fault)
unlocated_text told None document text before after fault h = absurd h
unlocated_text told (Some given) document text before after (rules.RulesAbsent uri) h = h.0
unlocated_text told (Some given) document text before after (rules.RulesNotUtf8 uri at) h = h.0
unlocated_text told (Some given) document text before after (rules.BadRules uri) h = h.0
unlocated_text told (Some given) document text before after (rules.RulesLoop uri) h = h.0
unlocated_text told (Some given) document text before after (rules.BadUri wrong) h = tt
unlocated_text told (Some given) document text before after rules.Failed h = tt
unlocated_text told (Some given) document text before after rules.NoMemory h = tt

-- where something is located, or nothing, the count of faults is as before
pub located_count : (told : Option FileMap) (given : Option (List ℕ)) (document text : List ℕ) (before after : ℕ) (found : Option (List ℕ))
    → Locates told given document text before after (Ok found) → after ≡ before
located_count told None document text before after None h = h
located_count told None document text before after (Some uri) h = absurd h
located_count told (Some given) document text before after found h = h.2

-- why the URI of the rules can't be had
pub lacks_text : (given : Option (List ℕ)) (cause : Refusal) → LacksRules given cause → RefusalIsText cause
lacks_text given cause (inl (bad, h)) = subst RefusalIsText (sym bad) tt
lacks_text given cause (inr wanting) = subst RefusalIsText (sym wanting) tt

pub unjoined_rules : (given text : List ℕ) (fault : UriFault) → text ≡ given → (fault ≡ uri_fault.Bad → IsBadUri work_folder text) →
    LacksRules (Some given) (refusal_of_uri fault)
unjoined_rules given text uri_fault.Bad same bad = inl (refl, inl (subst (λ t. IsBadUri work_folder t) same (bad refl)))
unjoined_rules given text uri_fault.NoMemory same bad = inr refl

-- what the URI of the rules is
pub joined_rules : (given bytes text uri : List ℕ) → text ≡ bytes → bytes ≡ given → IsUtf8 bytes → Joins work_folder text uri → RulesAre (Some given) (Some uri)
joined_rules given bytes text uri whole same utf8 joins = (subst IsUtf8 same utf8, subst (λ t. Joins work_folder t uri) (whole ∙ same) joins)

-- a constant of ASCII characters alone
abbrev is_plain : List ℕ → Bool
is_plain [] = true
is_plain (c ∷ cs) = nat_lt c 128 && is_plain cs

pub plain_ascii : (cs : List ℕ) → is_plain cs ≡ true → IsAscii cs
plain_ascii [] h i = omega arith
plain_ascii (c ∷ cs) h zero = ltb-true c 128 (and_parts (nat_lt c 128) (is_plain cs) h).0
plain_ascii (c ∷ cs) h (suc i) = plain_ascii cs (and_parts (nat_lt c 128) (is_plain cs) h).1 i

-- the schema that is located is held
pub auto-held : (uri : List ℕ) (old new : EditorState) (before between after : FilesState) → LocatingAnswers old before between.faults (Ok (Some uri))
    → between.map ≡ before.map → HoldsFile uri old between new after → SchemaAutoStep old before (Located (Some uri)) new after
auto-held uri old new before between after located map held =
    let P : FilesState → Type 0 = λ files. HoldsFile uri old files new after in
    (located.0, subst P (same-files between before map located.1) held)

-- or it is refused
pub auto-unheld : (uri : List ℕ) (old : EditorState) (before between after : FilesState) (cause : Refusal) → LocatingAnswers old before between.faults (Ok (Some uri))
    → between.map ≡ before.map → IsRefusedFor between.map uri between.faults after.faults cause → IsRefusedAuto old before after cause
auto-unheld uri old before between after cause located map refused =
    let P : FilesState → Type 0 = λ files. IsRefusedFor files.map uri files.faults after.faults cause in
    inr (uri, located.0, subst P (same-files between before map located.1) refused)
