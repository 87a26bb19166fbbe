-- Words are read as what they say.
use Rattle.std.proofs.Common.{◌≡◌, ◌∙◌, ℕ, Bool, true, false, cond, List, [], ◌∷◌, ◌++◌, length, drop, Option, Some, None, is_some, codes, refl, sym, ap, subst, ◌==◌, arith}
use Rattle.std.specs.Prelude.{option_and_then, unwrap_or, if◌then◌else◌}
use Rattle.std.proofs.lemmas.Bool.{ne_eqb}
use Rattle.nx_words.specs.declared.form.Choice.{Choice}
use Rattle.nx_words.specs.declared.form.Choice.TheVariants.{Schema, Rules}
use Rattle.nx_words.specs.declared.form.Said.{Said}
use Rattle.nx_words.specs.declared.form.Said.TheVariants.{Dashes, Names, Gives, Plain, Other}
use Rattle.nx_words.specs.declared.form.Awaited.{Awaited}
use Rattle.nx_words.specs.declared.form.Awaited.TheVariants as awaited
use Rattle.nx_words.specs.Form.{is_value, front_of, said, unless}
use Rattle.nx_words.specs.Grammar.{WordsSay, nothing, plain, behind_dashes, schema, joined_schema, rules, joined_rules, WordsAreRead}
use Rattle.nx_words.specs.Words.{Given, nothing_given, choose, read_said, read_words, ended, line_of, CommandLine}
use Rattle.nx_words.proofs.Agreement.{Says, said_says, Fits, said_fits}

abbrev Text : Type 0
Text = List ℕ

-- ---- what is said in front and what is said behind, never both

abbrev Apart : Option Text → Option Text → Option Text → Type 0
Apart None behind all = behind ≡ all
Apart (Some x) behind all = (behind ≡ None) × (all ≡ Some x)

in_front : (a c : Option Text) → a ≡ c → Apart a None c
in_front None c e = e
in_front (Some x) c e = (refl, sym e)

behind_none : (a b c : Option Text) → a ≡ None → b ≡ c → Apart a b c
behind_none a b c n e = let P : Option Text → Type 0 = λ o. Apart o b c in subst P (sym n) e

front_is : (a c : Option Text) → Apart a None c → a ≡ c
front_is None c e = e
front_is (Some x) c e = sym e.1

nothing_in_front : (a : Option Text) (b : Text) (c : Option Text) → Apart a (Some b) c → (a ≡ None) × (c ≡ Some b)
nothing_in_front None b c e = (refl, sym e)
nothing_in_front (Some x) b c e = absurd (let bad : Some b ≡ None = e.0 in cc)

some_is : (x y : CommandLine) → Some x ≡ Some y → x ≡ y
some_is x y e = ap (λ o. unwrap_or o x) e

not_some : (o : Option Text) → is_some o ≡ false → o ≡ None
not_some None e = refl
not_some (Some x) e = absurd (let bad : true ≡ false = e in cc)

-- ---- reading from a place on

abbrev goes : Option (Awaited × Given) → List Text → Option CommandLine
goes next words = option_and_then (λ (end : Awaited × Given). ended end.0 end.1) (option_and_then (λ (to : Awaited × Given). read_words to.0 to.1 words) next)

abbrev outcome : Awaited → Given → List Text → Option CommandLine
outcome a g words = option_and_then (λ (end : Awaited × Given). ended end.0 end.1) (read_words a g words)

-- what the words behind say, beside what was given
record Left (g : Given) (words : List Text) (line : CommandLine) : Type 0 where
  script_behind : Option Text
  schema_behind : Option Text
  rules_behind : Option Text
  says : WordsSay words script_behind schema_behind rules_behind
  scripts : Apart g.script script_behind (Some line.script)
  schemas : Apart g.schema schema_behind line.schema
  rules_apart : Apart g.rules rules_behind line.rules

record LeftOfValue (choice : Choice) (g : Given) (words : List Text) (line : CommandLine) : Type 0 where
  value : Text
  others : List Text
  is : words ≡ value ∷ others
  fits : is_value value ≡ true
  left : Left (choose choice value g) others line

abbrev Sound : List Text → Type 0
Sound words = (g : Given) (line : CommandLine) → outcome awaited.Any g words ≡ Some line → Left g words line

abbrev SoundValue : List Text → Type 0
SoundValue words = (choice : Choice) (g : Given) (line : CommandLine) → outcome (awaited.Value choice) g words ≡ Some line → LeftOfValue choice g words line

-- ---- sound

at_end : (g : Given) (line : CommandLine) → outcome awaited.Any g [] ≡ Some line → Left g [] line
at_end g line e = by_script g.script refl e
  where
    by_script : (o : Option Text) → g.script ≡ o → line_of o g ≡ Some line → Left g [] line
    by_script None is k = absurd (let bad : None ≡ Some line = k in cc)
    by_script (Some s) is k =
        let l = some_is (record { script = s; schema = g.schema; rules = g.rules }) line k in
        record {
          script_behind = None;
          schema_behind = None;
          rules_behind = None;
          says = nothing;
          scripts = in_front g.script (Some line.script) (is ∙ ap (λ (x : CommandLine). Some x.script) l);
          schemas = in_front g.schema line.schema (ap (λ (x : CommandLine). x.schema) l);
          rules_apart = in_front g.rules line.rules (ap (λ (x : CommandLine). x.rules) l);
        }

unless_goes : (b : Bool) (to : Awaited × Given) (words : List Text) (line : CommandLine) → goes (unless b to) words ≡ Some line →
    (b ≡ false) × (outcome to.0 to.1 words ≡ Some line)
unless_goes true to words line e = absurd (let bad : None ≡ Some line = e in cc)
unless_goes false to words line e = (refl, e)

-- the script behind `--`
last_left : (g : Given) (word : Text) (words : List Text) (line : CommandLine) → word ≡ codes "--" → g.script ≡ None →
    outcome awaited.Script g words ≡ Some line → Left g (word ∷ words) line
last_left g word [] line is none e = absurd (let bad : None ≡ Some line = e in cc)
last_left g word (v ∷ vs) line is none e = by_test vs (length v == 0) refl e
  where
    by_test : (vs : List Text) (b : Bool) → (length v == 0) ≡ b →
        goes (if b then None else Some (awaited.Nothing, record g { script = Some v })) vs ≡ Some line → Left g (word ∷ v ∷ vs) line
    by_test vs true t k = absurd (let bad : None ≡ Some line = k in cc)
    by_test (x ∷ xs) false t k = absurd (let bad : None ≡ Some line = k in cc)
    by_test [] false t k =
        let l = some_is (record { script = v; schema = g.schema; rules = g.rules }) line k in
        let P : Text → Type 0 = λ w. WordsSay (w ∷ v ∷ []) (Some v) None None in
        record {
          script_behind = Some v;
          schema_behind = None;
          rules_behind = None;
          says = subst P (sym is) (behind_dashes (λ (empty : v ≡ []). let bad : false ≡ true = sym t ∙ ap (λ (u : Text). length u == 0) empty in absurd (cc)));
          scripts = behind_none g.script (Some v) (Some line.script) none (ap (λ (x : CommandLine). Some x.script) l);
          schemas = in_front g.schema line.schema (ap (λ (x : CommandLine). x.schema) l);
          rules_apart = in_front g.rules line.rules (ap (λ (x : CommandLine). x.rules) l);
        }

-- an option more in front of words
with_schema : (g : Given) (value : Text) (all others : List Text) (line : CommandLine) → g.schema ≡ None → Left (choose Schema value g) others line →
    ((script rules : Option Text) → WordsSay others script None rules → WordsSay all script (Some value) rules) → Left g all line
with_schema g value all others line none h make =
    let P : Option Text → Type 0 = λ o. WordsSay others h.script_behind o h.rules_behind in
    record {
      script_behind = h.script_behind;
      schema_behind = Some value;
      rules_behind = h.rules_behind;
      says = make h.script_behind h.rules_behind (subst P h.schemas.0 h.says);
      scripts = h.scripts;
      schemas = behind_none g.schema (Some value) line.schema none (sym h.schemas.1);
      rules_apart = h.rules_apart;
    }

with_rules : (g : Given) (value : Text) (all others : List Text) (line : CommandLine) → g.rules ≡ None → Left (choose Rules value g) others line →
    ((script schema : Option Text) → WordsSay others script schema None → WordsSay all script schema (Some value)) → Left g all line
with_rules g value all others line none h make =
    let P : Option Text → Type 0 = λ o. WordsSay others h.script_behind h.schema_behind o in
    record {
      script_behind = h.script_behind;
      schema_behind = h.schema_behind;
      rules_behind = Some value;
      says = make h.script_behind h.schema_behind (subst P h.rules_apart.0 h.says);
      scripts = h.scripts;
      schemas = h.schemas;
      rules_apart = behind_none g.rules (Some value) line.rules none (sym h.rules_apart.1);
    }

word_more : (word : Text) (words : List Text) → Sound words → SoundValue words → Sound (word ∷ words)
word_more word words ih ihv g line e = by_said (said word) (said_says word) (said_fits word) e
  where
    by_said : (s : Said) → Says word s → Fits word s → goes (read_said s g word) words ≡ Some line → Left g (word ∷ words) line
    by_said Dashes is fits h =
        let u = unless_goes (is_some g.script) (awaited.Script, g) words line h in
        last_left g word words line is (not_some g.script u.0) u.1
    by_said (Names Schema) is fits h =
        let u = unless_goes (is_some g.schema) (awaited.Value Schema, g) words line h in
        let v = ihv Schema g line u.1 in
        let P : Text → Type 0 = λ w. (script rules : Option Text) → WordsSay v.others script None rules → WordsSay (w ∷ v.value ∷ v.others) script (Some v.value) rules in
        let Q : List Text → Type 0 = λ ws. Left g (word ∷ ws) line in
        subst Q (sym v.is) (with_schema g v.value (word ∷ v.value ∷ v.others) v.others line (not_some g.schema u.0) v.left (subst P (sym is) (λ script rules s. schema v.fits s)))
    by_said (Names Rules) is fits h =
        let u = unless_goes (is_some g.rules) (awaited.Value Rules, g) words line h in
        let v = ihv Rules g line u.1 in
        let P : Text → Type 0 = λ w. (script schema : Option Text) → WordsSay v.others script schema None → WordsSay (w ∷ v.value ∷ v.others) script schema (Some v.value) in
        let Q : List Text → Type 0 = λ ws. Left g (word ∷ ws) line in
        subst Q (sym v.is) (with_rules g v.value (word ∷ v.value ∷ v.others) v.others line (not_some g.rules u.0) v.left (subst P (sym is) (λ script schema s. rules v.fits s)))
    by_said (Gives Schema) is fits h =
        let value = drop (length (front_of Schema)) word in
        let u = unless_goes (is_some g.schema) (awaited.Any, choose Schema value g) words line h in
        let P : Text → Type 0 = λ w. (script rules : Option Text) → WordsSay words script None rules → WordsSay (w ∷ words) script (Some value) rules in
        with_schema g value (word ∷ words) words line (not_some g.schema u.0) (ih (choose Schema value g) line u.1) (subst P (sym is) (λ script rules s. joined_schema fits s))
    by_said (Gives Rules) is fits h =
        let value = drop (length (front_of Rules)) word in
        let u = unless_goes (is_some g.rules) (awaited.Any, choose Rules value g) words line h in
        let P : Text → Type 0 = λ w. (script schema : Option Text) → WordsSay words script schema None → WordsSay (w ∷ words) script schema (Some value) in
        with_rules g value (word ∷ words) words line (not_some g.rules u.0) (ih (choose Rules value g) line u.1) (subst P (sym is) (λ script schema s. joined_rules fits s))
    by_said Plain is fits h =
        let u = unless_goes (is_some g.script) (awaited.Any, record g { script = Some word }) words line h in
        let l = ih (record g { script = Some word }) line u.1 in
        let P : Option Text → Type 0 = λ o. WordsSay words o l.schema_behind l.rules_behind in
        record {
          script_behind = Some word;
          schema_behind = l.schema_behind;
          rules_behind = l.rules_behind;
          says = plain is (subst P l.scripts.0 l.says);
          scripts = behind_none g.script (Some word) (Some line.script) (not_some g.script u.0) (sym l.scripts.1);
          schemas = l.schemas;
          rules_apart = l.rules_apart;
        }
    by_said Other is fits h = absurd (let bad : None ≡ Some line = h in cc)

value_more : (word : Text) (words : List Text) → Sound words → SoundValue (word ∷ words)
value_more word words ih choice g line e = by_test (is_value word) refl e
  where
    by_test : (b : Bool) → is_value word ≡ b → goes (if b then Some (awaited.Any, choose choice word g) else None) words ≡ Some line → LeftOfValue choice g (word ∷ words) line
    by_test true t h = record { value = word; others = words; is = refl; fits = t; left = ih (choose choice word g) line h }
    by_test false t h = absurd (let bad : None ≡ Some line = h in cc)

no_value : SoundValue []
no_value choice g line e = absurd (let bad : None ≡ Some line = e in cc)

all_sound : (words : List Text) → Sound words × SoundValue words
all_sound [] = (at_end, no_value)
all_sound (word ∷ words) =
    let ih = all_sound words in
    (word_more word words ih.0 ih.1, value_more word words ih.0)

-- ---- complete

said_plain : (word : Text) → is_value word ≡ true → said word ≡ Plain
said_plain word e = by_said (said word) refl (said_says word) (said_fits word)
  where
    by_said : (s : Said) → said word ≡ s → Says word s → Fits word s → said word ≡ Plain
    by_said Dashes k is fits = absurd (let bad : false ≡ true = ap is_value (sym is) ∙ e in cc)
    by_said (Names Schema) k is fits = absurd (let bad : false ≡ true = ap is_value (sym is) ∙ e in cc)
    by_said (Names Rules) k is fits = absurd (let bad : false ≡ true = ap is_value (sym is) ∙ e in cc)
    by_said (Gives Schema) k is fits = absurd (let bad : false ≡ true = ap is_value (sym is) ∙ e in cc)
    by_said (Gives Rules) k is fits = absurd (let bad : false ≡ true = ap is_value (sym is) ∙ e in cc)
    by_said Plain k is fits = k
    by_said Other k is fits = absurd (let bad : false ≡ true = sym fits ∙ e in cc)

gives_schema : (value : Text) → is_value value ≡ true → said (codes "--schema=" ++ value) ≡ Gives Schema
gives_schema value e = ap (λ t. cond t (Gives Schema) Other) e

gives_rules : (value : Text) → is_value value ≡ true → said (codes "--rules=" ++ value) ≡ Gives Rules
gives_rules value e = ap (λ t. cond t (Gives Rules) Other) e

module _ (line : CommandLine) where
  complete : {words : List Text} {script schema rules : Option Text} → WordsSay words script schema rules → (g : Given) → Apart g.script script (Some line.script) →
      Apart g.schema schema line.schema → Apart g.rules rules line.rules → outcome awaited.Any g words ≡ Some line
  complete nothing g a b c =
      let s : g.script ≡ Some line.script = front_is g.script (Some line.script) a in
      let t : g.schema ≡ line.schema = front_is g.schema line.schema b in
      let r : g.rules ≡ line.rules = front_is g.rules line.rules c in
      ap (λ o. line_of o g) s ∙ ap (λ o. Some (record { script = line.script; schema = o; rules = g.rules })) t
      ∙ ap (λ o. Some (record { script = line.script; schema = line.schema; rules = o })) r
  complete (plain {word = word} {words = words} fits rest) g a b c =
      let n = nothing_in_front g.script word (Some line.script) a in
      ap (λ s. goes (read_said s g word) words) (said_plain word fits)
      ∙ ap (λ o. goes (unless (is_some o) (awaited.Any, record g { script = Some word })) words) n.0
      ∙ complete rest (record g { script = Some word }) (refl, n.1) b c
  complete (behind_dashes {word = word} some) g a b c =
      let n = nothing_in_front g.script word (Some line.script) a in
      let t : g.schema ≡ line.schema = front_is g.schema line.schema b in
      let r : g.rules ≡ line.rules = front_is g.rules line.rules c in
      let s : Some word ≡ Some line.script = sym n.1 in
      ap (λ o. goes (unless (is_some o) (awaited.Script, g)) (word ∷ [])) n.0
      ∙ ap (λ u. goes (if u then None else Some (awaited.Nothing, record g { script = Some word })) []) (not_empty word some)
      ∙ ap (λ o. line_of o g) s ∙ ap (λ o. Some (record { script = line.script; schema = o; rules = g.rules })) t
      ∙ ap (λ o. Some (record { script = line.script; schema = line.schema; rules = o })) r
    where
      not_empty : (word : Text) → (word ≡ [] → ⊥) → (length word == 0) ≡ false
      not_empty [] h = absurd (h refl)
      not_empty (b ∷ bytes) h = ne_eqb (length (b ∷ bytes)) 0 (λ (k : length (b ∷ bytes) ≡ 0). omega (arith, k))
  complete (schema {value = value} {words = words} fits rest) g a b c =
      let n = nothing_in_front g.schema value line.schema b in
      ap (λ o. goes (unless (is_some o) (awaited.Value Schema, g)) (value ∷ words)) n.0
      ∙ ap (λ u. goes (if u then Some (awaited.Any, choose Schema value g) else None) words) fits
      ∙ complete rest (choose Schema value g) a (refl, n.1) c
  complete (joined_schema {value = value} {words = words} fits rest) g a b c =
      let n = nothing_in_front g.schema value line.schema b in
      ap (λ s. goes (read_said s g (codes "--schema=" ++ value)) words) (gives_schema value fits)
      ∙ ap (λ o. goes (unless (is_some o) (awaited.Any, choose Schema value g)) words) n.0
      ∙ complete rest (choose Schema value g) a (refl, n.1) c
  complete (rules {value = value} {words = words} fits rest) g a b c =
      let n = nothing_in_front g.rules value line.rules c in
      ap (λ o. goes (unless (is_some o) (awaited.Value Rules, g)) (value ∷ words)) n.0
      ∙ ap (λ u. goes (if u then Some (awaited.Any, choose Rules value g) else None) words) fits
      ∙ complete rest (choose Rules value g) a b (refl, n.1)
  complete (joined_rules {value = value} {words = words} fits rest) g a b c =
      let n = nothing_in_front g.rules value line.rules c in
      ap (λ s. goes (read_said s g (codes "--rules=" ++ value)) words) (gives_rules value fits)
      ∙ ap (λ o. goes (unless (is_some o) (awaited.Any, choose Rules value g)) words) n.0
      ∙ complete rest (choose Rules value g) a b (refl, n.1)

-- ---- both

whole : (words : List Text) (line : CommandLine) → Left nothing_given words line → WordsSay words (Some line.script) line.schema line.rules
whole words line h =
    let P : Option Text → Type 0 = λ o. WordsSay words o h.schema_behind h.rules_behind in
    let Q : Option Text → Type 0 = λ o. WordsSay words (Some line.script) o h.rules_behind in
    let R : Option Text → Type 0 = λ o. WordsSay words (Some line.script) line.schema o in
    subst R h.rules_apart (subst Q h.schemas (subst P h.scripts h.says))

pub words_are_read : WordsAreRead
words_are_read words line = (
  (λ e. whole words line ((all_sound words).0 nothing_given line e)),
  (λ h. complete line h nothing_given refl refl refl),
)
