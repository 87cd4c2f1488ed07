-- The block that an image keeps.
use Rattle.std.specs.Prelude.{ℕ, List}
use Rattle.image.specs.Layout.{block_in}
use Rattle.image.specs.declared.image.Image.{Image}

abbrev pub block_of : Image → List ℕ
block_of image = block_in image.block.bytes
