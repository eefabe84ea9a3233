-- What the bytes after the confirmation code of a reply tell.
use Rattle.std.specs.Prelude.{◌≡◌, ℕ, List}
use Rattle.dsx_messages.specs.declared.kind.Kind.{Kind}
use Rattle.dsx_messages.specs.declared.code.Code.{Code}
use Rattle.dsx_messages.specs.declared.reply.Detail.{Detail}
use Rattle.dsx_messages.specs.WellFormed.{GoesWith}
use Rattle.dsx_messages.specs.Spelling.{tail_of}

-- the detail goes with the kind and the code, and the bytes are its spelling
pub record IsDetailSpelling (kind : Kind) (code : Code) (tail : List ℕ) (detail : Detail) : Type 0 where
  pub goes : GoesWith kind code detail
  pub spelling : tail ≡ tail_of kind code detail
