-- What it says of two states of a machine that they are the same.
use Rattle.std.specs.Prelude.{◌≡◌, ℕ, ◌+◌, ◌-◌, ◌≤◌}
use Rattle.nx_base.specs.Rules.{Lexeme, Rules}
use Rattle.nx_base.specs.Shifting.{placed}

-- how two means go on alike: as far back, as deep, as fit for a mark; and behind an equal token, and at the end, the
-- same faults but for the distance of their places
pub record GoesOnAlike {M : Type 0} (rules later_rules : Rules M) (a b : M) : Type 0 where
  pub back : later_rules.back b ≡ rules.back a
  pub depth : later_rules.depth b ≡ rules.depth a
  pub may_mark : later_rules.may_mark b ≡ rules.may_mark a
  pub after : (lexeme : Lexeme) → later_rules.after b lexeme ≡ rules.after a lexeme
  pub faults : (lexeme : Lexeme) (from distance : ℕ) → rules.back a ≤ from →
      placed (distance + from - later_rules.back b) (later_rules.gives b lexeme)
      ≡ placed distance (placed (from - rules.back a) (rules.gives a lexeme))
  pub ends : (len distance : ℕ) → rules.back a ≤ len →
      placed (distance + len - later_rules.back b) (later_rules.ends b)
      ≡ placed distance (placed (len - rules.back a) (rules.ends a))

-- `same` of a machine s is true of two of its states exactly where they mean the same to it: its clause. So, where t is
-- a later machine or s itself:
pub record SameStatesGoOn {S T M : Type 0} (later : S → S → Type 0) (is_state : S → T → Type 0)
    (means : S → T → M) (rules : S → Rules M) : Type 0 where
  -- it is true of a state with itself, whoever is asked, also where the one was had from the other by a copy
  pub itself : (s t : S) (a b : T) → later s t → is_state s a → is_state s b → means s b ≡ means s a → means t b ≡ means t a
  -- of two first states, the second from a later machine
  pub firsts : (s t : S) (a b : T) → later s t → is_state s a → means s a ≡ (rules s).first → means t b ≡ (rules t).first
      → means t b ≡ means t a
  -- these two are true of any equation; so `same` may be used as one
  pub symmetric : (s : S) (a b : T) → means s a ≡ means s b → means s b ≡ means s a
  pub transitive : (s : S) (a b c : T) → means s a ≡ means s b → means s b ≡ means s c → means s a ≡ means s c
  -- every later machine answers alike: true where it was, and false where it was
  pub lasting : (s t : S) (a b : T) → later s t → is_state s a → is_state s b → means s a ≡ means s b → means t a ≡ means t b
  pub lasting_apart : (s t : S) (a b : T) → later s t → is_state s a → is_state s b → means t a ≡ means t b → means s a ≡ means s b
  -- and no list of tokens tells the two apart, also where the later machine is asked of the second: rules are functions of what states mean
  -- and of nothing else, so this is true of every machine whose calls are equations with its rules
  pub alike : (s t : S) (a b : T) → later s t → is_state s a → means t a ≡ means t b →
      GoesOnAlike (rules s) (rules t) (means s a) (means t b)
