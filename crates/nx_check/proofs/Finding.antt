-- Where the schema of a document is, and why that isn't known.
use Rattle.std.proofs.Common.{◌≡◌, ℕ, List, codes, Option, Some, None, refl, sym, ap, ◌∙◌, subst}
use Rattle.nx_host.specs.Uri.{IsBadUri}
use Rattle.nx_host.specs.declared.uri.UriFault.{UriFault}
use Rattle.nx_host.specs.declared.uri.UriFault.TheVariants as uri_fault
use Rattle.nx_locate.specs.NamedSchemas.{named_schema}
use Rattle.nx_session.specs.Editor.{FilesState}
use Rattle.nx_session.specs.Schemas.{IsRefusedSchema}
use Rattle.nx_check.specs.Naming.{IsDocument}
use Rattle.nx_check.specs.Reasons.{Stops, StopsSource, reason_of_uri}
use Rattle.nx_check.specs.Sources.{HasSource, IsLostBy, LacksRulesBeside}
use Rattle.nx_check.specs.Words.{Asked}
use Rattle.nx_check.specs.declared.document.Document.{Document}
use Rattle.nx_check.specs.declared.reason.Reason.{Reason}
use Rattle.nx_check.specs.declared.reason.Reason.TheVariants.{BadWord, Absent, NotUtf8, BadReference, Rules, Schema, Failed, NoMemory}

-- the name of rules beside the document is no URI
pub lacks-beside : (document : Document) (files : FilesState) (fault : UriFault) → (fault ≡ uri_fault.Bad → IsBadUri document.uri (codes "schemas.xml")) →
    LacksRulesBeside document files files (reason_of_uri fault)
lacks-beside document files uri_fault.Bad bad = (bad refl, refl)
lacks-beside document files uri_fault.NoMemory bad = refl

-- what should lead to the schema is no URI
pub lost : (asked : Asked) (folder word : List ℕ) (files : FilesState) (document : Document) (href : Option (List ℕ)) (fault : UriFault) →
    IsDocument folder word files.map document → asked.schema ≡ None → named_schema document.bytes ≡ href → (fault ≡ uri_fault.Bad → IsLostBy href asked folder document) →
    Stops asked folder word files files (reason_of_uri fault)
lost asked folder word files document href uri_fault.Bad is not_given named bad =
    let P : Option (List ℕ) → Type 0 = λ h. IsLostBy h asked folder document in
    (record { document = document; is_document = is; bad = (not_given, subst P (sym named) (bad refl)) }, refl)
lost asked folder word files document href uri_fault.NoMemory is not_given named bad = refl

-- there is no editor for the document's schema
pub stops-source : (asked : Asked) (folder word : List ℕ) (first old mid new : FilesState) (document : Document) (source : Option (List ℕ)) (reason : Reason) →
    old ≡ first → mid ≡ first → IsDocument folder word first.map document → HasSource asked folder old document source → StopsSource source mid new reason →
    Stops asked folder word first new reason
stops-source asked folder word first old mid new document source reason same later is has stops =
    let P : FilesState → Type 0 = λ f. HasSource asked folder f document source in
    let Q : FilesState → Type 0 = λ f. StopsSource source f new reason in
    go source reason (subst P same has) (subst Q later stops)
  where
    go : (s : Option (List ℕ)) (r : Reason) → HasSource asked folder first document s → StopsSource s first new r → Stops asked folder word first new r
    go (Some text) (Schema named cause) h k =
        let A : List ℕ → Type 0 = λ t. HasSource asked folder first document (Some t) in
        let B : List ℕ → Type 0 = λ t. IsRefusedSchema t first new cause in
        (record { document = document; is_document = is; has_source = subst A (sym k.0) h; refused = subst B (sym k.0) k.1 }, k.2)
    go (Some text) Failed h k = k
    go (Some text) NoMemory h k = k
    go (Some text) BadWord h k = absurd k
    go (Some text) Absent h k = absurd k
    go (Some text) (NotUtf8 at) h k = absurd k
    go (Some text) BadReference h k = absurd k
    go (Some text) (Rules fault) h k = absurd k
    go None (Schema named cause) h k = absurd k
    go None Failed h k = k
    go None NoMemory h k = k
    go None BadWord h k = absurd k
    go None Absent h k = absurd k
    go None (NotUtf8 at) h k = absurd k
    go None BadReference h k = absurd k
    go None (Rules fault) h k = absurd k
