-- The chain of files that leads to the next one, while files are loaded.
use Rattle.std.specs.Prelude.{◌≡◌, ℕ, List, [], ◌∷◌, ◌++◌, Option, Result, Ok, Err, IsUtf8, reverse, map, Contains, Vec, true, is_some}
use Rattle.std.specs.declared.alloc.Global.{Global}
use Rattle.std.specs.List.{AllByRecursion}
use Rattle.nx_base.specs.declared.cause.Cause.TheVariants.{IncludeLoop}
use Rattle.nx_host.specs.Files.{FileMap}
use Rattle.nx_host.specs.Uri.{Joins, IsBadUri}
use Rattle.rnc_parse.specs.declared.surface.Surface.{Surface}
use Rattle.rnc_parse.specs.Texts.{HasUtf8Texts}
use Rattle.rnc_parse.specs.Views.{surface_of}
use Rattle.rng_simplify.specs.declared.fault.SchemaFault.{SchemaFault}
use Rattle.rng_simplify.specs.declared.fault.SchemaFault.TheVariants.{BadUri, NoMemory, Unreadable}
use Rattle.rng_simplify.specs.declared.load.Link.{Link}
use Rattle.rng_simplify.specs.declared.load.Loaded.{Loaded}
use Rattle.rng_simplify.specs.declared.mention.Mention.{Mention as Kept}
use Rattle.rng_simplify.specs.declared.names.Names.{Names}
use Rattle.rng_simplify.specs.ComposedFiles.{Context, Says}
use Rattle.rng_simplify.specs.NameTables.{kept_named}
use Rattle.rng_simplify.specs.LoadedFiles.{Waiting, waiting_in, AreRead, AllLoaded, SaysFile}
use Rattle.rng_simplify.specs.KeptMentions.{kept_of_all, AreTextMentions}
use Rattle.rng_simplify.specs.References.{Mention, Mentions, mentions_of}
use Rattle.rng_simplify.specs.Simplified.{IfTold, Answers}

-- the URIs of a chain
abbrev pub uris_of : List Link → List (List ℕ)
uris_of links = map (λ (link : Link). link.uri) links

-- a link of the chain is a file in this context, which mentions these and no more that aren't read yet
pub record IsLink (told : Option FileMap) (uri : List ℕ) (context : Context) (more : List Mention) (link : Link) (outer : List Link) : Type
    0 where
  pub uri_is : link.uri ≡ context.uri
  pub chain_is : context.chain ≡ uris_of (link ∷ outer)
  pub waiting_are : reverse link.waiting.items ≡ kept_of_all context.inherited more
  pub mentioned : (mention : Mention) → Contains more mention → IfTold told (λ files. Mentions files uri context mention)

-- the chain, the innermost link first, and all that waits in its files
pub data IsChain (told : Option FileMap) (uri : List ℕ) : List Link → List Waiting → Type 0 where
  no_link : IsChain told uri [] []
  further_link : {link : Link} {links : List Link} {outer all : List Waiting} (context : Context) (more : List Mention) →
      IsLink told uri context more link links → IsChain told uri links outer → all ≡ waiting_in context more ++ outer →
      IsChain told uri (link ∷ links) all

-- files are loaded but for what waits in the chain
pub record IsUnderWay (told : Option FileMap) (uri : List ℕ) (links : List Link) (loaded : List Loaded) : Type 0 where
  pub waiting : List Waiting
  pub chain : IsChain told uri links waiting
  pub completed : (rest : List Loaded) → AreRead told waiting rest → AllLoaded told uri (loaded ++ rest)

-- the URIs and texts of a link are UTF-8
abbrev pub IsTextLink : Link → Type 0
IsTextLink link = IsUtf8 link.uri × AreTextMentions (reverse link.waiting.items)

abbrev pub AreTextLinks : List Link → Type 0
AreTextLinks links = AllByRecursion IsTextLink links

-- each file of the chain is among those that were opened
abbrev pub AreOpened : Names (Unit {0}) → List Link → Type 0
AreOpened opened links = AllByRecursion (λ (link : Link). is_some (kept_named opened link.uri) ≡ true) links

-- a file that was read is put on the chain, and behind those that are loaded
pub record IsAdded (uri inherited : List ℕ) (surface : Surface) (old_links new_links : List Link)
    (old_loaded new_loaded : List Loaded) : Type 0 where
  pub waiting : Vec Kept Global
  pub waiting_are : reverse waiting.items ≡ kept_of_all inherited (mentions_of (surface_of surface))
  pub links_are : reverse new_links ≡ record { uri = uri; waiting = waiting } ∷ reverse old_links
  pub loaded_are : new_loaded ≡ old_loaded ++ record { inherited = inherited; surface = surface } ∷ []

-- reading the file of a URI, and adding it
abbrev pub OpensFile : {A : Type 0} → Option FileMap → List ℕ → List ℕ → ℕ → ℕ → List Link → List Link → List Loaded → List Loaded →
    Result A SchemaFault → Type 0
OpensFile told uri inherited before after old_links new_links old_loaded new_loaded (Ok done) =
    (surface : Surface) × IfTold told (λ files. Says files uri (surface_of surface)) × HasUtf8Texts (surface_of surface)
    × IsAdded uri inherited surface old_links new_links old_loaded new_loaded × (after ≡ before)
OpensFile told uri inherited before after old_links new_links old_loaded new_loaded (Err fault) =
    SaysFile told uri before after (Err fault)

-- ---- the URI of the next file

-- the refusal of a text that is no URI
abbrev pub IsBadText : List ℕ → SchemaFault → Type 0
IsBadText text (BadUri bad) = bad ≡ text
IsBadText text NoMemory = Unit {0}
IsBadText text other = ⊥

-- what the text denotes in the file of that URI
abbrev pub MakesUri : List ℕ → List ℕ → Result (List ℕ) SchemaFault → Type 0
MakesUri base text (Ok uri) = Joins base text uri × IsUtf8 uri
MakesUri base text (Err (BadUri bad)) = (bad ≡ text) × IsBadUri base text
MakesUri base text (Err NoMemory) = Unit {0}
MakesUri base text (Err other) = ⊥

-- the same where it is no file of the chain
abbrev pub NextUri : List (List ℕ) → List ℕ → List ℕ → Result (List ℕ) SchemaFault → Type 0
NextUri uris base text (Ok uri) = Joins base text uri × IsUtf8 uri × (Contains (base ∷ uris) uri → ⊥)
NextUri uris base text (Err (BadUri bad)) = (bad ≡ text) × IsBadUri base text
NextUri uris base text (Err (Unreadable IncludeLoop)) = (uri : List ℕ) × Joins base text uri × Contains (base ∷ uris) uri
NextUri uris base text (Err NoMemory) = Unit {0}
NextUri uris base text (Err other) = ⊥

-- ---- turns

-- a turn goes on, or the files are refused
abbrev pub GoesOn : {A : Type 0} → Option FileMap → List ℕ → ℕ → ℕ → List Link → List Loaded → Result A SchemaFault → Type 0
GoesOn told uri before after links loaded (Ok done) = IsUnderWay told uri links loaded
GoesOn told uri before after links loaded (Err fault) = Answers told uri before after (Err fault)

-- all turns end, or the files are refused
abbrev pub Follows : {A : Type 0} → Option FileMap → List ℕ → ℕ → ℕ → List Loaded → Result A SchemaFault → Type 0
Follows told uri before after loaded (Ok done) = AllLoaded told uri loaded × (after ≡ before)
Follows told uri before after loaded (Err fault) = Answers told uri before after (Err fault)
