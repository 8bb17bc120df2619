-- The profiles of CDR files: how releases are written that three bits can't say (this project's own). In profile 1 they
-- are 7, and no more is said. In profile 2 each release that is 7 has an octet more, its extension.
use Rattle.std.specs.Prelude.{◌≡◌, ◌≤◌, ◌<◌, ◌==◌, ◌&&◌, ℕ, Bool, true, false, List, [], ◌∷◌, Option, None, Some}
use Rattle.gw_base.specs.declared.kind.CdrKind.{CdrKind}
use Rattle.cdr_file.specs.declared.filed_kind.FiledKind.{FiledKind}

-- there are two profiles, 1 and 2
abbrev pub IsProfile : ℕ → Type 0
IsProfile profile = (1 ≤ profile) × (profile ≤ 2)

-- the octet of an extension, where there is one
abbrev pub extension_octets : Option ℕ → List ℕ
extension_octets None = []
extension_octets (Some extension) = extension ∷ []

-- an extension that is there just where this holds
abbrev pub extension_if : Bool → ℕ → Option ℕ
extension_if true extension = Some extension
extension_if false extension = None

-- a kind in the form of a profile: its extension is there in profile 2 for release 7 alone
abbrev pub in_profile : ℕ → CdrKind → FiledKind
in_profile profile kind = record {
  release = kind.release;
  version = kind.version;
  format = kind.format;
  extension = extension_if ((profile == 2) && (kind.release == 7)) kind.extension;
}

-- an extension is there just where this holds, and fits its octet
abbrev pub IsExtension : Bool → Option ℕ → Type 0
IsExtension holds None = holds ≡ false
IsExtension holds (Some extension) = (holds ≡ true) × (extension < 256)

-- a release may have this extension: only 7 has one
abbrev pub MayExtend : ℕ → Option ℕ → Type 0
MayExtend release None = Unit {0}
MayExtend release (Some extension) = (release ≡ 7) × (extension < 256)

-- a kind that a CDR's header can say
pub record IsFiledKind (kind : FiledKind) : Type 0 where
  pub release : kind.release < 8
  pub version : kind.version < 32
  pub format : kind.format < 8
  pub extension : MayExtend kind.release kind.extension
