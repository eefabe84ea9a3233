-- What the option `--version` prints (implementation-specific).
use Rattle.std.specs.Prelude.{ℕ, List, [], ◌∷◌, ◌++◌, codes}

-- the program and its version
abbrev pub version_text : List ℕ
version_text = codes "plant_script 0.1" ++ 10 ∷ []
