-- The files of a deposit, as its envelope lists them (RFC 8909, section 5.1), and the law of what is packed.
use Rattle.std.specs.Prelude.{◌≡◌, ◌++◌, ⊤, ℕ, List, map}
use Rattle.envelope.specs.Envelope.{Env, env_text}
use Rattle.envelope.specs.Frame.{IsFrame, RefusesFrame}
use Rattle.envelope.specs.Spelling.{HasSpellingFault}
use Rattle.deposit_verify.specs.Checks.{HasMenu}
use Rattle.deposit_verify.specs.Deposit.{AreFiles, HasEnvelope, HasFiles, IsDeposit, all_entries, deletes_of}
use Rattle.deposit_verify.specs.FilesReasons.{IsFilesReason}
use Rattle.deposit_verify.specs.HeaderReasons.{IsMenuReason}
use Rattle.deposit_verify.specs.declared.base.Base.{Base}
use Rattle.deposit_verify.specs.declared.files_reason.ReadFault.TheVariants.{Files, Table, Deletes}
use Rattle.deposit_verify.specs.declared.header_reason.HeaderReason.TheVariants as header
use Rattle.deposit_verify.specs.declared.reason.Reason.{Reason}
use Rattle.deposit_verify.specs.declared.reason.Reason.TheVariants.{Frame, Envelope, Header, Read, Tables}
use Rattle.deposit_name.specs.declared.table.TableName.{TableName}
use Rattle.deposit_pack.specs.Packable.{IsPackable}
use Rattle.deposit_pack.specs.Packing.{NamedRows, Objects, file_of, packed, packed_env}
use Rattle.deposit_pack.specs.declared.source.Attributes.{Attributes}
use Rattle.deposit_pack.specs.declared.source.TableFile.{TableFile}
use Rattle.deposit_pack.specs.declared.unpacking.Unpacked.{Unpacked}

abbrev pub file_names : List TableFile → List TableName
file_names files = map (λ f. f.name) files

abbrev pub file_texts : List TableFile → List (List ℕ)
file_texts files = map (λ f. f.text.now) files

-- the deposit passes the checks of frame, envelope, menu and files
abbrev pub MayUnpack : List ℕ → Type 0
MayUnpack joined = HasEnvelope joined (λ v rest. HasMenu v × HasFiles v rest (λ files. ⊤))

-- these are the text of its envelope, and its files, each under the name of its entry
pub record IsUnpacked (joined : List ℕ) (unpacked : Unpacked) : Type 0 where
  pub envelope : Env
  pub rest : List ℕ
  pub deposit : IsDeposit joined envelope rest
  pub menu : HasMenu envelope
  pub text : unpacked.envelope.now ≡ env_text envelope
  pub files : AreFiles (all_entries envelope) rest (file_texts unpacked.contents.items ++ file_texts unpacked.deletes.items)
  pub contents_named : file_names unpacked.contents.items ≡ map (λ entry. entry.name) envelope.contents
  pub deletes_named : file_names unpacked.deletes.items ≡ map (λ entry. entry.name) (deletes_of envelope)

-- why it is not unpacked: the first place at which it fails the first of these checks that it fails
abbrev pub IsUnpackReason : List ℕ → Reason → Type 0
IsUnpackReason joined (Frame fault) = RefusesFrame fault joined
IsUnpackReason joined (Envelope fault) = (envelope : List ℕ) × (rest : List ℕ) × IsFrame joined envelope rest × HasSpellingFault fault envelope
IsUnpackReason joined (Header (header.Menu reason)) = HasEnvelope joined (λ v rest. IsMenuReason v reason)
IsUnpackReason joined (Header (header.Name other)) = ⊥
IsUnpackReason joined (Header (header.Id here stated)) = ⊥
IsUnpackReason joined (Header (header.Sunday day)) = ⊥
IsUnpackReason joined (Header (header.PrevId kind here wanted)) = ⊥
IsUnpackReason joined (Header (header.IdTaken id)) = ⊥
IsUnpackReason joined (Read (Files reason)) = HasEnvelope joined (λ v rest. HasMenu v × IsFilesReason v rest reason)
IsUnpackReason joined (Read (Table reason)) = ⊥
IsUnpackReason joined (Read (Deletes reason)) = ⊥
IsUnpackReason joined (Tables reason) = ⊥

-- ---- of what is packed

-- the files of these rows, each under its name
abbrev pub AreFilesOfRows : List NamedRows → List TableFile → Type 0
AreFilesOfRows rows files = (file_names files ≡ map (λ f. f.name) rows) × (file_texts files ≡ map file_of rows)

-- What is packed is unpacked as the rows that were packed, in their one spelling.
pub record IsUnpackingLaw : Type 0 where
  pub may : (a : Attributes) (o : Objects) (before : Base) → IsPackable a o before → MayUnpack (packed a o before)
  pub text : (a : Attributes) (o : Objects) (before : Base) (unpacked : Unpacked) → IsPackable a o before → IsUnpacked (packed a o before) unpacked
      → unpacked.envelope.now ≡ env_text (packed_env a o before)
  pub contents : (a : Attributes) (o : Objects) (before : Base) (unpacked : Unpacked) → IsPackable a o before → IsUnpacked (packed a o before) unpacked
      → AreFilesOfRows o.contents unpacked.contents.items
  pub deletes : (a : Attributes) (o : Objects) (before : Base) (unpacked : Unpacked) → IsPackable a o before → IsUnpacked (packed a o before) unpacked
      → AreFilesOfRows o.deletes unpacked.deletes.items
