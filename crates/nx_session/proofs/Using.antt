-- Schemas that are used, and refused.
use Rattle.std.proofs.Common.{◌≡◌, ℕ, List, Option, Result, Ok, Err, refl, ap, inl, inr}
use Rattle.nx_host.specs.Files.{FileMap}
use Rattle.nx_host.specs.Uri.{IsBadUri}
use Rattle.nx_host.specs.declared.uri.UriFault.{UriFault}
use Rattle.nx_host.specs.declared.uri.UriFault.TheVariants as uri_fault
use Rattle.nx_script.specs.Replies.{RefusalIsText, refusal_of_uri}
use Rattle.nx_script.specs.declared.reply.Refusal.{Refusal}
use Rattle.nx_script.specs.declared.reply.Refusal.TheVariants.{BadCommand, BadPosition, BadUri, Absent, NotUtf8, Unreadable, BadRules, NoView, Failed, NoMemory}
use Rattle.nx_session.specs.Editor.{FilesState, work_folder}
use Rattle.nx_session.specs.Schemas.{UsesGrammar, Defines, SchemaAnswers, IsRefusedSchema}
use Rattle.rng_core.specs.declared.grammar.Grammar.{Grammar}
use Rattle.rng_live.specs.declared.schema.Schema.{Schema}

-- what is answered of the grammar that the files define
pub use_answers : (told : Option FileMap) (uri : List ℕ) (before after : ℕ) (whole : Grammar) (answer : Result Schema Refusal) → Defines told uri whole
    → after ≡ before → UsesGrammar whole answer → SchemaAnswers told uri before after answer
use_answers told uri before after whole (Ok schema) defined same h = ((whole, defined, h), same)
use_answers told uri before after whole (Err (Unreadable why)) defined same h = (inr (whole, defined, h), same)
use_answers told uri before after whole (Err NoMemory) defined same h = same
use_answers told uri before after whole (Err BadCommand) defined same h = absurd h
use_answers told uri before after whole (Err (BadPosition at len)) defined same h = absurd h
use_answers told uri before after whole (Err BadUri) defined same h = absurd h
use_answers told uri before after whole (Err (Absent absent)) defined same h = absurd h
use_answers told uri before after whole (Err (BadRules fault)) defined same h = absurd h
use_answers told uri before after whole (Err (NoView index)) defined same h = absurd h
use_answers told uri before after whole (Err (NotUtf8 wrong at)) defined same h = absurd h
use_answers told uri before after whole (Err Failed) defined same h = absurd h

-- its text is UTF-8
pub use_text : (whole : Grammar) (refusal : Refusal) → UsesGrammar whole (Err refusal) → RefusalIsText refusal
use_text whole (Unreadable why) h = tt
use_text whole NoMemory h = tt
use_text whole BadCommand h = absurd h
use_text whole (BadPosition at len) h = absurd h
use_text whole BadUri h = absurd h
use_text whole (Absent absent) h = absurd h
use_text whole (BadRules fault) h = absurd h
use_text whole (NoView index) h = absurd h
use_text whole (NotUtf8 wrong at) h = absurd h
use_text whole Failed h = absurd h

-- the command's text is no URI, or there is no memory for it
pub unjoined : (uri_text : List ℕ) (before after : FilesState) (fault : UriFault) → (fault ≡ uri_fault.Bad → IsBadUri work_folder uri_text)
    → after ≡ before → IsRefusedSchema uri_text before after (refusal_of_uri fault)
unjoined uri_text before after uri_fault.Bad bad same = inl (refl, bad refl, ap (λ (files : FilesState). files.faults) same)
unjoined uri_text before after uri_fault.NoMemory bad same = inr (inl (refl, ap (λ (files : FilesState). files.faults) same))
