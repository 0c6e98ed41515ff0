-- The same bytes are the same version. Assumes nothing.
use Rattle.std.specs.Prelude.{◌≡◌}
use Rattle.names.specs.Canon.{same_plain, same_formed}
use Rattle.versions.specs.Values.{PlainVersion, Version, plain_version_bytes, version_bytes}

pub same_plain_version : (v w : PlainVersion) → plain_version_bytes v ≡ plain_version_bytes w → v ≡ w
same_plain_version = same_plain

pub same_version : (v w : Version) → version_bytes v ≡ version_bytes w → v ≡ w
same_version = same_formed
