-- Whether bytes are an XML declaration, by the items of one.
use Rattle.std.proofs.Common.{◌≡◌, ℕ, Bool, true, false, List, length, refl}
use Rattle.std.specs.Prelude.{◌==◌}
use Rattle.nx_base.specs.declared.token.TokenKind.TheVariants.{Decl}
use Rattle.nx_events.specs.Items.{first_state, items_of_token, declaration_items}
use Rattle.nx_events.specs.XmlDeclaration.{is_xml_declaration}

pub no_fault : (bytes : List ℕ) → (length (items_of_token first_state (record { kind = Decl; from = 0; bytes = bytes })) == 0) ≡ is_xml_declaration bytes
unfolding items_of_token declaration_items
no_fault bytes = by_test (is_xml_declaration bytes) refl
  where
    by_test : (b : Bool) → is_xml_declaration bytes ≡ b →
        (length (items_of_token first_state (record { kind = Decl; from = 0; bytes = bytes })) == 0) ≡ is_xml_declaration bytes
    by_test true e = rw e refl
    by_test false e = rw e refl
