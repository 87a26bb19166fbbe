-- Files as they are loaded: in the order in which they are mentioned, each before those that it mentions.
use Rattle.std.specs.Prelude.{◌≡◌, ℕ, Bool, List, [], ◌∷◌, ◌++◌, Option, Some, None, Result, Ok, Err, IsUtf8, reverse, map, Vec}
use Rattle.std.specs.declared.alloc.Global.{Global}
use Rattle.nx_base.specs.declared.cause.Cause.{Cause}
use Rattle.nx_base.specs.declared.cause.Cause.TheVariants as cause
use Rattle.nx_host.specs.Count.{Rose}
use Rattle.nx_host.specs.Files.{FileMap}
use Rattle.nx_host.specs.Utf8.{StopsBeingText}
use Rattle.rnc_lex.specs.declared.fault.LexFault.TheVariants as lex
use Rattle.rnc_parse.specs.declared.read.ReadFault.{ReadFault}
use Rattle.rnc_parse.specs.declared.read.ReadFault.TheVariants as read
use Rattle.rnc_parse.specs.declared.surface.Surface.{Surface}
use Rattle.rnc_parse.specs.Texts.{HasUtf8Texts}
use Rattle.rnc_parse.specs.Views.{surface_of}
use Rattle.rngx_read.specs.Files.{is_markup, ReadsAs, ReadsFile, RefusesAs, RefusesFile}
use Rattle.rngx_read.specs.declared.read.XReadFault.{XReadFault}
use Rattle.rngx_read.specs.declared.read.XReadFault.TheVariants as markup
use Rattle.rng_simplify.specs.declared.fault.SchemaFault.{SchemaFault}
use Rattle.rng_simplify.specs.declared.fault.SchemaFault.TheVariants.{Absent, NotUtf8, BadUri, Failed, NoMemory, Unreadable}
use Rattle.rng_simplify.specs.declared.load.Loaded.{Loaded}
use Rattle.rng_simplify.specs.ComposedFiles.{Context, top, Says, Opens}
use Rattle.rng_simplify.specs.References.{Mention, reference_of, mentions_of}
use Rattle.rng_simplify.specs.Simplified.{IfTold, Answers}

-- ---- the files

-- a mention of a file that isn't read yet
pub record Waiting : Type 0 where
  pub context : Context
  pub mention : Mention

abbrev pub waiting_in : Context → List Mention → List Waiting
waiting_in context all = map (λ (mention : Mention). record { context = context; mention = mention }) all

-- what the file says, and the namespace that it inherits, are UTF-8
abbrev pub IsTextFile : Loaded → Type 0
IsTextFile file = IsUtf8 file.inherited × HasUtf8Texts (surface_of file.surface)

-- the file is the one to which the mention leads, as far as files tell; it stands there
pub record IsRead (told : Option FileMap) (waiting : Waiting) (inner : Context) (file : Loaded) : Type 0 where
  pub texts : IsTextFile file
  pub inherits : file.inherited ≡ inner.inherited
  pub opens : IfTold told (λ files. Opens files waiting.context (reference_of waiting.mention) inner (surface_of file.surface))

-- files for all that waits, in order, each with those that it mentions behind it
pub data AreRead (told : Option FileMap) : List Waiting → List Loaded → Type 0 where
  all_read : AreRead told [] []
  one_read : {waiting : Waiting} {more : List Waiting} {file : Loaded} {files : List Loaded} (inner : Context) →
      IsRead told waiting inner file → AreRead told (waiting_in inner (mentions_of (surface_of file.surface)) ++ more) files →
      AreRead told (waiting ∷ more) (file ∷ files)

-- the file of this URI, and all that it leads to
pub record AreLoaded (told : Option FileMap) (uri : List ℕ) (first : Loaded) (others : List Loaded) : Type 0 where
  pub texts : IsTextFile first
  pub inherits : first.inherited ≡ []
  pub says : IfTold told (λ files. Says files uri (surface_of first.surface))
  pub others_read : AreRead told (waiting_in (top uri) (mentions_of (surface_of first.surface))) others

abbrev pub AllLoaded : Option FileMap → List ℕ → List Loaded → Type 0
AllLoaded told uri [] = ⊥
AllLoaded told uri (first ∷ others) = AreLoaded told uri first others

-- what loading may answer; the first file stands last
abbrev pub Loads : Option FileMap → List ℕ → ℕ → ℕ → Result (Vec Loaded Global) SchemaFault → Type 0
Loads told uri before after (Ok loaded) = AllLoaded told uri (reverse loaded.items) × (after ≡ before)
Loads told uri before after (Err fault) = Answers told uri before after (Err fault)

-- ---- one file

-- its bytes are no text from there on
pub record IsNoTextAt (bytes : List ℕ) (at : ℕ) : Type 0 where
  pub no_text : ¬ IsUtf8 bytes
  pub stops : StopsBeingText bytes at

-- causes for which one text is refused
abbrev pub IsOfReading : Cause → Type 0
IsOfReading cause.BadEscape = Unit {0}
IsOfReading cause.BadLiteral = Unit {0}
IsOfReading cause.BadCharacter = Unit {0}
IsOfReading cause.Syntax = Unit {0}
IsOfReading cause.TooDeep = Unit {0}
IsOfReading cause.UndeclaredPrefix = Unit {0}
IsOfReading cause.Twice = Unit {0}
IsOfReading cause.BadMarkup = Unit {0}
IsOfReading cause.BadForm = Unit {0}
IsOfReading why = ⊥

pub record IsRefusedText (bytes : List ℕ) (why : Cause) : Type 0 where
  pub is_text : IsUtf8 bytes
  pub refused : RefusesFile bytes why
  pub of_reading : IsOfReading why

pub record SaysText (bytes : List ℕ) (surface : Surface) : Type 0 where
  pub is_text : IsUtf8 bytes
  pub reads : ReadsFile bytes (surface_of surface)
  pub texts : HasUtf8Texts (surface_of surface)

-- the refusal of a text in the compact syntax that isn't read
abbrev pub unread_as : ReadFault → SchemaFault
unread_as (read.Lex (lex.BadEscape at)) = Unreadable cause.BadEscape
unread_as (read.Lex (lex.BadLiteral at)) = Unreadable cause.BadLiteral
unread_as (read.Lex (lex.BadCharacter at)) = Unreadable cause.BadCharacter
unread_as (read.Lex lex.NoMemory) = NoMemory
unread_as (read.TooDeep at) = Unreadable cause.TooDeep
unread_as (read.Syntax at) = Unreadable cause.Syntax
unread_as (read.UndeclaredPrefix prefix) = Unreadable cause.UndeclaredPrefix
unread_as (read.Twice prefix) = Unreadable cause.Twice
unread_as read.NoMemory = NoMemory

-- the refusal of a text in the XML syntax that isn't read
abbrev pub unread_markup_as : XReadFault → SchemaFault
unread_markup_as (markup.BadMarkup at) = Unreadable cause.BadMarkup
unread_markup_as (markup.TooDeep at) = Unreadable cause.TooDeep
unread_markup_as (markup.BadForm at) = Unreadable cause.BadForm
unread_markup_as (markup.UndeclaredPrefix prefix) = Unreadable cause.UndeclaredPrefix
unread_markup_as markup.NoMemory = NoMemory

-- what a text says, or why it isn't read, in the XML syntax or the compact one
abbrev pub SaysAs : Bool → List ℕ → Result Surface SchemaFault → Type 0
SaysAs in_markup text (Ok surface) = ReadsAs in_markup text (surface_of surface) × HasUtf8Texts (surface_of surface)
SaysAs in_markup text (Err (Unreadable why)) = RefusesAs in_markup text why × IsOfReading why
SaysAs in_markup text (Err NoMemory) = Unit {0}
SaysAs in_markup text (Err other) = ⊥

-- the same in the syntax that it is written in
abbrev pub SaysIn : List ℕ → Result Surface SchemaFault → Type 0
SaysIn text result = SaysAs (is_markup text) text result

-- what the bytes under a URI say
abbrev pub SaysBytes : List ℕ → List ℕ → Result Surface SchemaFault → Type 0
SaysBytes uri bytes (Ok surface) = SaysText bytes surface
SaysBytes uri bytes (Err (NotUtf8 wrong at)) = (wrong ≡ uri) × IsNoTextAt bytes at
SaysBytes uri bytes (Err (Unreadable why)) = IsRefusedText bytes why
SaysBytes uri bytes (Err NoMemory) = Unit {0}
SaysBytes uri bytes (Err other) = ⊥

-- the refusal of a URI with nothing under it
abbrev pub IsAbsence : List ℕ → SchemaFault → Type 0
IsAbsence uri (Absent absent) = absent ≡ uri
IsAbsence uri NoMemory = Unit {0}
IsAbsence uri other = ⊥

-- what is under a URI
abbrev pub Fetches : Option FileMap → List ℕ → ℕ → ℕ → Result (List ℕ) SchemaFault → Type 0
Fetches told uri before after (Ok bytes) = IfTold told (λ files. files uri ≡ Some bytes) × (after ≡ before)
Fetches told uri before after (Err (Absent absent)) = (absent ≡ uri) × IfTold told (λ files. files uri ≡ None) × (after ≡ before)
Fetches told uri before after (Err Failed) = Rose before after
Fetches told uri before after (Err NoMemory) = after ≡ before
Fetches told uri before after (Err other) = ⊥

-- what the file of a URI says
abbrev pub SaysFile : Option FileMap → List ℕ → ℕ → ℕ → Result Surface SchemaFault → Type 0
SaysFile told uri before after (Ok surface) =
    IfTold told (λ files. Says files uri (surface_of surface)) × HasUtf8Texts (surface_of surface) × (after ≡ before)
SaysFile told uri before after (Err (Absent absent)) = (absent ≡ uri) × IfTold told (λ files. files uri ≡ None) × (after ≡ before)
SaysFile told uri before after (Err (NotUtf8 wrong at)) =
    (wrong ≡ uri) × IfTold told (λ files. (bytes : List ℕ) × (files uri ≡ Some bytes) × IsNoTextAt bytes at) × (after ≡ before)
SaysFile told uri before after (Err (Unreadable why)) =
    IsOfReading why × IfTold told (λ files. (bytes : List ℕ) × (files uri ≡ Some bytes) × IsRefusedText bytes why) × (after ≡ before)
SaysFile told uri before after (Err Failed) = Rose before after
SaysFile told uri before after (Err NoMemory) = after ≡ before
SaysFile told uri before after (Err (BadUri text)) = ⊥
