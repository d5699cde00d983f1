-- Which bytes are characters, as a table: whether each byte is one.
use Rattle.std.specs.Prelude.{Bool, List, map}
use Rattle.model.specs.Propagation.{count_from}
use Rattle.model.specs.Book.{character}

unfoldable pub character_table : List Bool
character_table = map character (count_from 0 256)
