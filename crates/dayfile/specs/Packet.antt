-- The packet by which a fault ends the run: it names the layer, the number and the byte.
use Rattle.std.specs.Prelude.{ℕ, ◌+◌, List, ◌∷◌, ◌++◌, length, codes, decimal}
use Rattle.fields.specs.Be.{be}
use Rattle.rules.specs.Faults.{file_number, layer_of, place_of}
use Rattle.rules.specs.declared.fault.FileFault.{FileFault}
use Rattle.rules.specs.declared.fault.Layer.{Layer}
use Rattle.rules.specs.declared.fault.Layer.TheVariants as layer

abbrev pub layer_name : Layer → List ℕ
layer_name layer.File = codes "file"
layer_name layer.Message = codes "message"
layer_name layer.Engine = codes "engine"

-- one space between
abbrev pub fault_text : Layer → ℕ → ℕ → List ℕ
fault_text l n place = layer_name l ++ (32 ∷ decimal n ++ (32 ∷ decimal place))

-- a Soup packet: in two bytes how many follow, the letter +, and the text
abbrev pub plus_packet : List ℕ → List ℕ
plus_packet text = be 2 (1 + length text) ++ (43 ∷ text)

-- the packet of a fault in the record whose tag is at a place of the file
unfoldable pub fault_packet : FileFault → ℕ → List ℕ
fault_packet f at = plus_packet (fault_text (layer_of f) (file_number f) (place_of at f))
