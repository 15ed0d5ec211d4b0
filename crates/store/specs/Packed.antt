-- A version as bytes: the value, twrite and tread one after the other, each the highest byte first. Assumes nothing.
use Rattle.std.specs.Prelude.{ℕ, ◌+◌, List, ◌++◌, take}
use Rattle.store.specs.declared.Version.{Version}
use Rattle.store.specs.Bytes.{number_in, bytes_of, part}

-- how many bytes a value and a stamp take, and a version with them
abbrev pub value_width : ℕ
value_width = 4

abbrev pub stamp_width : ℕ
stamp_width = 8

abbrev pub size_with : ℕ → ℕ
size_with width = width + (stamp_width + stamp_width)

abbrev pub version_size : ℕ
version_size = size_with value_width

-- a version's bytes, and the version that bytes hold, at any width of a value
abbrev pub packed_with : ℕ → Version → List ℕ
packed_with width v = bytes_of width v.value ++ (bytes_of stamp_width v.twrite ++ bytes_of stamp_width v.tread)

abbrev pub unpacked_with : ℕ → List ℕ → Version
unpacked_with width bytes =
    record {
      value = number_in (take width bytes);
      twrite = number_in (part width stamp_width bytes);
      tread = number_in (part (width + stamp_width) stamp_width bytes);
    }

abbrev pub packed : Version → List ℕ
packed = packed_with value_width

abbrev pub unpacked : List ℕ → Version
unpacked = unpacked_with value_width
