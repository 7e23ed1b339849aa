-- What the program's version of a document stands for.
use Rattle.def_model.specs.Messages as messages
use Rattle.def_format.specs.declared.version.Version.{Version}
use Rattle.def_format.specs.declared.version.Version.TheVariants as versions

abbrev pub version_view : Version → messages.Version
version_view versions.One = messages.One
version_view versions.Two = messages.Two
