-- The version of the library as a number: 10,000 for each major version, 100 for each minor one. `library/besklaun.h`,
-- `library/Cargo.toml` and this are held together by `tests/library`.
use Rattle.std.specs.Prelude.{ℕ}

-- version 0.2.0
abbrev pub version_number : ℕ
version_number = 200
