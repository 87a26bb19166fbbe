-- Members beside excepts, where a test asks what excepts leave.
use Rattle.std.specs.Prelude.{◌≡◌, ◌<◌, ℕ, Bool, true, List}
use Rattle.std.proofs.lemmas.Bool.{and_parts}
use Rattle.std.specs.List.{list_all}
use Rattle.std.specs.Str.{chars, is_utf8}
use Rattle.nx_base.specs.Characters.{is_char, is_of_chars}
use Rattle.rng_types.specs.Types.{Accepts}
use Rattle.rng_types.specs.Answers.{is_left}
use Rattle.rng_types.specs.Members.{is_one_token, IsMember, HasMember}
use Rattle.rng_types.specs.declared.datatype.Datatype.{Datatype}
use Rattle.rng_types.specs.declared.datatype.Except.{Except}
use Rattle.rng_types.proofs.Deciding.{left_decided}

-- a text of such characters that is left
pub record IsLeftText (are : List ℕ → Bool) (type : Datatype) (excepts : List Except) (one_token : Bool) (text : List ℕ) : Type 0 where
  pub characters : are text ≡ true
  pub accepted : Accepts type text
  pub left : is_left type excepts text ≡ true
  pub token : one_token ≡ true → is_one_token text ≡ true

-- a member is left, of characters that XML allows
abbrev pub LeavesMember : Datatype → List Except → Bool → Type 0
LeavesMember type excepts one_token = (text : List ℕ) × IsLeftText is_of_chars type excepts one_token text

-- one of the first n candidates is
pub record LeavesOne (type : Datatype) (excepts : List Except) (one_token : Bool) (candidate : ℕ → List ℕ) (n : ℕ) : Type 0 where
  pub at : ℕ
  pub below : at < n
  pub is : IsLeftText is_of_chars type excepts one_token (candidate at)

pub one_of : {type : Datatype} {excepts : List Except} {one_token : Bool} {candidate : ℕ → List ℕ} {n : ℕ} → LeavesOne type excepts one_token candidate n → LeavesMember type excepts one_token
one_of {candidate = candidate} one = (candidate one.at, one.is)

-- and one of any characters
abbrev pub LeavesText : Datatype → List Except → Bool → Type 0
LeavesText type excepts one_token = (text : List ℕ) × IsLeftText is_utf8 type excepts one_token text

pub member_left : (type : Datatype) (excepts : List Except) (one_token : Bool) → LeavesMember type excepts one_token → HasMember type excepts one_token
member_left type excepts one_token left = record {
  text = left.0;
  characters = left.1.characters;
  member = record { accepted = left.1.accepted; left = (left_decided type left.0 excepts).0 left.1.left; token = left.1.token };
}

pub text_left : (type : Datatype) (excepts : List Except) (one_token : Bool) (text : List ℕ) → is_utf8 text ≡ true → IsMember type excepts one_token text → LeavesText type excepts one_token
text_left type excepts one_token text utf8 is =
    (text, record { characters = utf8; accepted = is.accepted; left = (left_decided type text excepts).1 is.left; token = is.token })

pub has_text_left : (type : Datatype) (excepts : List Except) (one_token : Bool) → HasMember type excepts one_token → LeavesText type excepts one_token
has_text_left type excepts one_token has =
    text_left type excepts one_token has.text (and_parts (is_utf8 has.text) (list_all is_char (chars has.text)) has.characters).0 has.member
