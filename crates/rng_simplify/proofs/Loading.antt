-- Files that are loaded in turns.
use Rattle.std.proofs.Common.{◌≡◌, refl, sym, ap, ◌∙◌, subst, ℕ, suc, List, [], ◌∷◌, ◌++◌, Option, Some, None, Result, Ok, Err, Vec, Global, arith}
use Rattle.std.specs.Prelude.{Contains, IsUtf8, reverse}
use Rattle.std.proofs.lemmas.List.{append_assoc, append-nil, reverse-append, reverse-reverse}
use Rattle.std.proofs.lemmas.Str.{IsUtf8-nil}
use Rattle.nx_base.specs.declared.cause.Cause.{Cause}
use Rattle.nx_base.specs.declared.cause.Cause.TheVariants as cause
use Rattle.nx_host.specs.Files.{FileMap}
use Rattle.nx_host.specs.Uri.{Joins, IsBadUri}
use Rattle.rnc_parse.specs.declared.surface.Surface.{Surface}
use Rattle.rnc_parse.specs.Texts.{HasUtf8Texts}
use Rattle.rnc_parse.specs.Views.{surface_of}
use Rattle.rnc_parse.specs.Written.{WrittenSurface}
use Rattle.rng_simplify.specs.declared.fault.SchemaFault.{SchemaFault}
use Rattle.rng_simplify.specs.declared.fault.SchemaFault.TheVariants.{Absent, NotUtf8, BadUri, Failed, NoMemory, Unreadable}
use Rattle.rng_simplify.specs.declared.load.Link.{Link}
use Rattle.rng_simplify.specs.declared.load.Loaded.{Loaded}
use Rattle.rng_simplify.specs.declared.mention.Mention.{Mention as Kept}
use Rattle.rng_simplify.specs.Broken.{IsAbsent, IsNoText, HasBadUri, IsRefused, HasIncludeLoop}
use Rattle.rng_simplify.specs.ComposedFiles.{Context, top, referred, Says, Opens}
use Rattle.rng_simplify.specs.FileChains.{uris_of, IsLink, IsChain, no_link, further_link, IsUnderWay, IsAdded, NextUri}
use Rattle.rng_simplify.specs.LoadedFiles.{Waiting, waiting_in, IsRead, AreRead, all_read, one_read, AllLoaded, IsNoTextAt, IsOfReading, IsRefusedText, SaysIn, SaysBytes, Fetches, SaysFile}
use Rattle.rng_simplify.specs.KeptMentions.{kept_of, kept_of_all}
use Rattle.rng_simplify.specs.References.{Mention, Mentions, Reached, the_first, a_further, reference_of, mentions_of}
use Rattle.rng_simplify.specs.Simplified.{IfTold, Answers}

-- ---- where files tell

pub told_with : (told : Option FileMap) (A B : FileMap → Type 0) → ((files : FileMap) → A files → B files) → IfTold told A → IfTold told B
told_with None A B f a = tt
told_with (Some files) A B f a = f files a

pub told_both : (told : Option FileMap) (A B C : FileMap → Type 0) → ((files : FileMap) → A files → B files → C files) → IfTold told A →
    IfTold told B → IfTold told C
told_both None A B C f a b = tt
told_both (Some files) A B C f a b = f files a b

pub told_always : (told : Option FileMap) (A : FileMap → Type 0) → ((files : FileMap) → A files) → IfTold told A
told_always None A f = tt
told_always (Some files) A f = f files

-- ---- a file that is refused

module _ (told : Option FileMap) (uri : List ℕ) where
  -- a file that is reached is refused
  pub refused_at : (context : Context) (before after : ℕ) (fault : SchemaFault) → IfTold told (λ files. Reached files uri context) →
      IsUtf8 context.uri → SaysFile told context.uri before after (Err fault) → Answers told uri before after (Err fault)
  refused_at context before after (Absent absent) reached is_text h = (
    subst (λ u. IsUtf8 u) (sym h.0) is_text,
    told_both told (λ files. Reached files uri context) (λ files. files context.uri ≡ None) (λ files. IsAbsent files uri absent)
        (λ files r e. record { context = context; reached = r; uri_is = h.0; nothing_there = ap files h.0 ∙ e }) reached h.1,
    h.2,
  )
  refused_at context before after (NotUtf8 wrong at) reached is_text h = (
    subst (λ u. IsUtf8 u) (sym h.0) is_text,
    told_both told (λ files. Reached files uri context) (λ files. (bytes : List ℕ) × (files context.uri ≡ Some bytes) × IsNoTextAt bytes at)
        (λ files. IsNoText files uri wrong at) (λ files r e. record {
          context = context;
          reached = r;
          uri_is = h.0;
          bytes = e.0;
          there = ap files h.0 ∙ e.1;
          no_text = e.2.no_text;
          stops = e.2.stops;
        }) reached h.1,
    h.2,
  )
  refused_at context before after (BadUri text) reached is_text h = absurd h
  refused_at context before after Failed reached is_text h = h
  refused_at context before after NoMemory reached is_text h = h
  refused_at context before after (Unreadable why) reached is_text h =
      refused why h.0 (told_both told (λ files. Reached files uri context) (λ files. (bytes : List ℕ) × (files context.uri ≡ Some bytes) ×
      IsRefusedText bytes why) (λ files. IsRefused files uri why)
      (λ files r e. record { context = context; reached = r; bytes = e.0; there = e.1; is_text = e.2.is_text; refused = e.2.refused })
      reached h.1) h.2
    where
      refused : (why : Cause) → IsOfReading why → IfTold told (λ files. IsRefused files uri why) → after ≡ before →
          Answers told uri before after (Err (Unreadable why))
      refused cause.BadEscape of_reading broken same = (tt, broken, same)
      refused cause.BadLiteral of_reading broken same = (tt, broken, same)
      refused cause.BadCharacter of_reading broken same = (tt, broken, same)
      refused cause.Syntax of_reading broken same = (tt, broken, same)
      refused cause.TooDeep of_reading broken same = (tt, broken, same)
      refused cause.UndeclaredPrefix of_reading broken same = (tt, broken, same)
      refused cause.Twice of_reading broken same = (tt, broken, same)
      refused cause.BadMarkup of_reading broken same = (tt, broken, same)
      refused cause.BadForm of_reading broken same = (tt, broken, same)
      refused why of_reading broken same = absurd of_reading

  -- ---- the chain

  -- the file is refused with which loading begins
  pub first_refused : (before after : ℕ) (fault : SchemaFault) → IsUtf8 uri → SaysFile told uri before after (Err fault) →
      Answers told uri before after (Err fault)
  first_refused before after fault is_text h =
      refused_at (top uri) before after fault (told_always told (λ files. Reached files uri (top uri)) (λ files. the_first)) is_text h

  -- what waits in a file that was read is mentioned there
  mentioned_in : (context : Context) (surface : WrittenSurface) → IfTold told (λ files. Reached files uri context) →
      IfTold told (λ files. Says files context.uri surface) → (mention : Mention) → Contains (mentions_of surface) mention →
      IfTold told (λ files. Mentions files uri context mention)
  mentioned_in context surface reached says mention among =
      told_both told (λ files. Reached files uri context) (λ files. Says files context.uri surface)
      (λ files. Mentions files uri context mention)
      (λ files r s. record { reached = r; surface = surface; says = s; mentioned = among }) reached says

  -- loading begins
  pub begun : (surface : Surface) (links : List Link) (loaded : List Loaded) → HasUtf8Texts (surface_of surface) →
      IfTold told (λ files. Says files uri (surface_of surface)) → IsAdded uri [] surface [] links [] loaded →
      IsUnderWay told uri (reverse links) loaded
  begun surface links loaded texts says added =
      let first : Link = record { uri = uri; waiting = added.waiting } in
      let file : Loaded = record { inherited = []; surface = surface } in
      let all : List Waiting = waiting_in (top uri) (mentions_of (surface_of surface)) in
      let is_link : IsLink told uri (top uri) (mentions_of (surface_of surface)) first [] = record {
        uri_is = refl;
        chain_is = refl;
        waiting_are = added.waiting_are;
        mentioned =
            mentioned_in (top uri) (surface_of surface) (told_always told (λ files. Reached files uri (top uri)) (λ files. the_first)) says;
      } in
      record {
        waiting = all;
        chain =
            subst (λ ls. IsChain told uri ls all) (sym added.links_are) (further_link (top uri) (mentions_of (surface_of surface)) is_link
            no_link (sym (append-nil all)));
        completed =
            λ rest read. subst (λ fs. AllLoaded told uri (fs ++ rest)) (sym added.loaded_are)
            (record { texts = (IsUtf8-nil, texts); inherits = refl; says = says; others_read = read });
      }

  -- all files are loaded
  pub completed_all : (loaded : List Loaded) → IsUnderWay told uri [] loaded → AllLoaded told uri loaded
  completed_all loaded under = subst (AllLoaded told uri) (append-nil loaded) (at_end under.waiting under.chain under.completed)
    where
      at_end : (waiting : List Waiting) → IsChain told uri [] waiting →
          ((rest : List Loaded) → AreRead told waiting rest → AllLoaded told uri (loaded ++ rest)) → AllLoaded told uri (loaded ++ [])
      at_end waiting no_link completed = completed [] all_read

  -- a file has no more mentions
  pub ended : (link : Link) (outer : List Link) (loaded : List Loaded) → reverse link.waiting.items ≡ [] →
      IsUnderWay told uri (link ∷ outer) loaded → IsUnderWay told uri outer loaded
  ended link outer loaded none under = at_link under.waiting under.chain under.completed
    where
      none_left : (context : Context) (more : List Mention) (rest : List Waiting) → kept_of_all context.inherited more ≡ [] →
          waiting_in context more ++ rest ≡ rest
      none_left context [] rest h = refl
      none_left context (m ∷ more) rest h = let never : ⊥ = cc in absurd never

      at_link : (waiting : List Waiting) → IsChain told uri (link ∷ outer) waiting →
          ((rest : List Loaded) → AreRead told waiting rest → AllLoaded told uri (loaded ++ rest)) → IsUnderWay told uri outer loaded
      at_link waiting (further_link {outer = behind} context more is_link chain all) completed =
          let same : waiting ≡ behind = all ∙ none_left context more behind (sym is_link.waiting_are ∙ none) in
          record {
            waiting = behind;
            chain = chain;
            completed = subst (λ ws. (rest : List Loaded) → AreRead told ws rest →
                AllLoaded told uri (loaded ++ rest)) same completed;
          }

-- the next mention of a link, and those behind it
pub record IsNextMention (told : Option FileMap) (uri : List ℕ) (old link : Link) (kept : Kept) (outer : List Link)
    (loaded : List Loaded) : Type 0 where
  pub context : Context
  pub mention : Mention
  pub more : List Mention
  pub behind : List Waiting
  pub kept_is : kept_of context.inherited mention ≡ kept
  pub more_are : reverse link.waiting.items ≡ kept_of_all context.inherited more
  pub uri_is : link.uri ≡ context.uri
  pub chain_is : context.chain ≡ uris_of (link ∷ outer)
  pub mentioned : IfTold told (λ files. Mentions files uri context mention)
  pub others : (other : Mention) → Contains more other → IfTold told (λ files. Mentions files uri context other)
  pub chain : IsChain told uri outer behind
  pub completed : (rest : List Loaded) →
      AreRead told (record { context = context; mention = mention } ∷ (waiting_in context more ++ behind)) rest →
      AllLoaded told uri (loaded ++ rest)

module _ (told : Option FileMap) (uri : List ℕ) where
  -- a mention that is taken from a link leads on
  pub next_mention : (old link : Link) (kept : Kept) (outer : List Link) (loaded : List Loaded) → old.uri ≡ link.uri →
      reverse old.waiting.items ≡ kept ∷ reverse link.waiting.items → IsUnderWay told uri (old ∷ outer) loaded →
      IsNextMention told uri old link kept outer loaded
  next_mention old link kept outer loaded same_uri taken under = at_link under.waiting under.chain under.completed
    where
      at_more : (context : Context) (more : List Mention) (behind : List Waiting) → IsLink told uri context more old outer →
          IsChain told uri outer behind →
          ((rest : List Loaded) → AreRead told (waiting_in context more ++ behind) rest → AllLoaded told uri (loaded ++ rest)) →
          IsNextMention told uri old link kept outer loaded
      at_more context [] behind is_link chain completed =
          let same : kept ∷ reverse link.waiting.items ≡ [] = sym taken ∙ is_link.waiting_are in let never : ⊥ = cc in absurd never
      at_more context (m ∷ more) behind is_link chain completed =
          let same : kept ∷ reverse link.waiting.items ≡ kept_of context.inherited m ∷ kept_of_all context.inherited more =
          sym taken ∙ is_link.waiting_are in
          record {
            context = context;
            mention = m;
            more = more;
            behind = behind;
            kept_is = let e : kept_of context.inherited m ≡ kept = cc in e;
            more_are = let e : reverse link.waiting.items ≡ kept_of_all context.inherited more = cc in e;
            uri_is = sym same_uri ∙ is_link.uri_is;
            chain_is = is_link.chain_is ∙ ap (λ u. u ∷ uris_of outer) same_uri;
            mentioned = is_link.mentioned m (0, omega arith, refl);
            others = λ other among. is_link.mentioned other (suc among.0, omega (arith, among.1), among.2);
            chain = chain;
            completed = completed;
          }

      at_link : (waiting : List Waiting) → IsChain told uri (old ∷ outer) waiting →
          ((rest : List Loaded) → AreRead told waiting rest → AllLoaded told uri (loaded ++ rest)) →
          IsNextMention told uri old link kept outer loaded
      at_link waiting (further_link {outer = behind} context more is_link chain all) completed =
          at_more context more behind is_link chain
          (subst (λ ws. (rest : List Loaded) → AreRead told ws rest → AllLoaded told uri (loaded ++ rest)) all completed)

  module _ (old link : Link) (kept : Kept) (outer : List Link) (loaded : List Loaded) (next : IsNextMention told uri old link kept outer
      loaded) where
    -- the text that is kept is that of the mention
    text_is : kept.text ≡ (reference_of next.mention).uri
    text_is = ap (λ (k : Kept). k.text) (sym next.kept_is)

    uri_at : (other : List ℕ) → Joins link.uri kept.text other → Joins next.context.uri (reference_of next.mention).uri other
    uri_at other joins =
        subst (λ b. Joins b (reference_of next.mention).uri other) next.uri_is (subst (λ t. Joins link.uri t other) text_is joins)

    no_loop_at : (other : List ℕ) → (Contains (link.uri ∷ uris_of outer) other → ⊥) → Contains next.context.chain other → ⊥
    no_loop_at other no_loop among = no_loop (subst (λ us. Contains us other) next.chain_is among)

    -- the text is no URI
    pub bad_uri : (count : ℕ) → IsBadUri link.uri kept.text → IfTold told (λ files. HasBadUri files uri kept.text)
    bad_uri count bad =
        told_with told (λ files. Mentions files uri next.context next.mention) (λ files. HasBadUri files uri kept.text) (λ files m. record {
          context = next.context;
          mention = next.mention;
          mentioned = m;
          text_is = text_is;
          bad = subst (λ b. IsBadUri b kept.text) next.uri_is bad;
        }) next.mentioned

    -- the file leads back here
    pub loop_at : (other : List ℕ) → Joins link.uri kept.text other → Contains (link.uri ∷ uris_of outer) other →
        IfTold told (λ files. HasIncludeLoop files uri)
    loop_at other joins among =
        told_with told (λ files. Mentions files uri next.context next.mention) (λ files. HasIncludeLoop files uri) (λ files m. record {
          context = next.context;
          mention = next.mention;
          mentioned = m;
          other = other;
          refers = uri_at other joins;
          leads_here = subst (λ us. Contains us other) (sym next.chain_is) among;
        }) next.mentioned

    pub not_next : (count : ℕ) (fault : SchemaFault) → IsUtf8 kept.text → NextUri (uris_of outer) link.uri kept.text (Err fault) →
        Answers told uri count count (Err fault)
    not_next count (BadUri bad) is_text h = (subst (λ t. IsUtf8 t) (sym h.0) is_text, subst (λ t. IfTold told (λ files. HasBadUri files uri t)) (sym h.0) (bad_uri count h.1), refl)
    not_next count NoMemory is_text h = refl
    not_next count (Unreadable cause.IncludeLoop) is_text h = (tt, loop_at h.0 h.1 h.2, refl)
    not_next count fault is_text h = absurd h

    -- the file where the mention leads is reached
    pub inner_reached : (other : List ℕ) → Joins link.uri kept.text other → (Contains (link.uri ∷ uris_of outer) other → ⊥) →
        IfTold told (λ files. Reached files uri (referred next.context (reference_of next.mention) other))
    inner_reached other joins no_loop =
        told_with told (λ files. Mentions files uri next.context next.mention)
        (λ files. Reached files uri (referred next.context (reference_of next.mention) other))
        (λ files m. a_further m.reached m.says m.mentioned (uri_at other joins) (no_loop_at other no_loop)) next.mentioned

    -- it is refused
    pub not_opened : (other : List ℕ) (before after : ℕ) (fault : SchemaFault) → Joins link.uri kept.text other →
        IsUtf8 other → (Contains (link.uri ∷ uris_of outer) other → ⊥) → SaysFile told other before after (Err fault) →
        Answers told uri before after (Err fault)
    not_opened other before after fault joins is_text no_loop h =
        refused_at told uri (referred next.context (reference_of next.mention) other) before after fault (inner_reached other joins no_loop)
        is_text h

    -- it is opened, and loading goes on
    pub opened : (other : List ℕ) (surface : Surface) (links new_links : List Link) (new_loaded : List Loaded) → IsUtf8 kept.inherited →
        HasUtf8Texts (surface_of surface) → Joins link.uri kept.text other → (Contains (link.uri ∷ uris_of outer) other → ⊥) →
        IfTold told (λ files. Says files other (surface_of surface)) → reverse links ≡ link ∷ outer →
        IsAdded other kept.inherited surface links new_links loaded new_loaded → IsUnderWay told uri (reverse new_links) new_loaded
    opened other surface links new_links new_loaded is_text texts joins no_loop says links_are added =
        let inner : Context = referred next.context (reference_of next.mention) other in
        let inherited : kept.inherited ≡ inner.inherited = ap (λ (k : Kept). k.inherited) (sym next.kept_is) in
        let first : Link = record { uri = other; waiting = added.waiting } in
        let file : Loaded = record { inherited = kept.inherited; surface = surface } in
        let all : List Mention = mentions_of (surface_of surface) in
        let rests : List Waiting = waiting_in next.context next.more ++ next.behind in
        let reached : IfTold told (λ files. Reached files uri inner) = inner_reached other joins no_loop in
        let is_link : IsLink told uri next.context next.more link outer =
        record { uri_is = next.uri_is; chain_is = next.chain_is; waiting_are = next.more_are; mentioned = next.others } in
        let is_first : IsLink told uri inner all first (link ∷ outer) = record {
          uri_is = refl;
          chain_is = ap (λ us. other ∷ us) next.chain_is;
          waiting_are = added.waiting_are ∙ ap (λ ns. kept_of_all ns all) inherited;
          mentioned = mentioned_in told uri inner (surface_of surface) reached says;
        } in
        let chain : IsChain told uri (first ∷ link ∷ outer) (waiting_in inner all ++ rests) =
        further_link inner all is_first (further_link next.context next.more is_link next.chain refl) refl in
        let is_read : IsRead told (record { context = next.context; mention = next.mention }) inner file = record {
          texts = (is_text, texts);
          inherits = inherited;
          opens =
              told_with told (λ files. Says files other (surface_of surface)) (λ files. Opens files next.context (reference_of next.mention)
              inner (surface_of surface)) (λ files s. record {
                uri = other;
                refers = uri_at other joins;
                inner_is = refl;
                no_loop = no_loop_at other no_loop;
                says = s;
              }) says;
        } in
        record {
          waiting = waiting_in inner all ++ rests;
          chain =
              subst (λ ls. IsChain told uri ls (waiting_in inner all ++ rests)) (sym (added.links_are ∙ ap (λ ls. first ∷ ls) links_are))
              chain;
          completed =
              λ rest read. subst (AllLoaded told uri) (sym (append_assoc loaded (file ∷ []) rest) ∙ ap (λ fs. fs ++ rest)
              (sym added.loaded_are)) (next.completed (file ∷ rest) (one_read inner is_read read));
        }

-- ---- one file

-- what a text says is what its bytes say
pub says_text : (uri bytes : List ℕ) (result : Result Surface SchemaFault) → IsUtf8 bytes → SaysIn bytes result → SaysBytes uri bytes result
says_text uri bytes (Ok surface) is_text h = record { is_text = is_text; reads = h.0; texts = h.1 }
says_text uri bytes (Err (Unreadable why)) is_text h = record { is_text = is_text; refused = h.0; of_reading = h.1 }
says_text uri bytes (Err NoMemory) is_text h = tt
says_text uri bytes (Err fault) is_text h = absurd h

-- what the bytes say is what the file says
pub file_is : (told : Option FileMap) (uri bytes : List ℕ) (before after : ℕ) (result : Result Surface SchemaFault) →
    Fetches told uri before after (Ok bytes) → SaysBytes uri bytes result → SaysFile told uri before after result
file_is told uri bytes before after (Ok surface) fetched says = (
  told_with told (λ files. files uri ≡ Some bytes) (λ files. Says files uri (surface_of surface))
      (λ files there. record { bytes = bytes; there = there; is_text = says.is_text; reads = says.reads }) fetched.0,
  says.texts,
  fetched.1,
)
file_is told uri bytes before after (Err (NotUtf8 wrong at)) fetched says = (
  says.0,
  told_with told (λ files. files uri ≡ Some bytes) (λ files. (bytes : List ℕ) × (files uri ≡ Some bytes) × IsNoTextAt bytes at)
      (λ files there. (bytes, there, says.1)) fetched.0,
  fetched.1,
)
file_is told uri bytes before after (Err (Unreadable why)) fetched says = (
  says.of_reading,
  told_with told (λ files. files uri ≡ Some bytes) (λ files. (bytes : List ℕ) × (files uri ≡ Some bytes) ×
      IsRefusedText bytes why) (λ files there. (bytes, there, says)) fetched.0,
  fetched.1,
)
file_is told uri bytes before after (Err NoMemory) fetched says = fetched.1
file_is told uri bytes before after (Err fault) fetched says = absurd says

-- a file is put on the chain
pub added : (uri inherited : List ℕ) (surface : Surface) (waiting : Vec Kept Global) (old_links new_links : List Link)
    (old_loaded new_loaded : List Loaded) → waiting.items ≡ reverse (kept_of_all inherited (mentions_of (surface_of surface))) →
    new_links ≡ old_links ++ record { uri = uri; waiting = waiting } ∷ [] →
    new_loaded ≡ old_loaded ++ record { inherited = inherited; surface = surface } ∷ [] →
    IsAdded uri inherited surface old_links new_links old_loaded new_loaded
added uri inherited surface waiting old_links new_links old_loaded new_loaded waiting_are links_are loaded_are = record {
  waiting = waiting;
  waiting_are = ap reverse waiting_are ∙ reverse-reverse (kept_of_all inherited (mentions_of (surface_of surface)));
  links_are = ap reverse links_are ∙ reverse-append old_links (record { uri = uri; waiting = waiting } ∷ []);
  loaded_are = loaded_are;
}
