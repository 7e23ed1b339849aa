-- The text of a drawing: an SVG element. Each text that is put into it is escaped.
use Rattle.std.specs.Prelude.{ℕ, List, ◌++◌, codes, decimal, flat_map, string_bytes}
use Rattle.out_svg.specs.Escapes.{escape}
use Rattle.out_svg.specs.declared.anchor.Anchor.{Anchor}
use Rattle.out_svg.specs.declared.anchor.Anchor.TheVariants as anchor
use Rattle.out_svg.specs.declared.class.Class.{Class}
use Rattle.out_svg.specs.declared.class.Class.TheVariants.{Process, Past, Next, Message, Flight, Beyond, Cut, Number, Step, Value, Name, Note}
use Rattle.out_svg.specs.declared.drawing.Drawing.{Drawing}
use Rattle.out_svg.specs.declared.point.Point.{Point}
use Rattle.out_svg.specs.declared.shape.Shape.{Shape}
use Rattle.out_svg.specs.declared.shape.Shape.TheVariants.{Line, Arrow, Circle, Polyline, Text}
use Rattle.out_svg.specs.declared.style.TheConstants.{STYLE}

-- ` name="value"`; the value holds no mark-up
unfoldable pub attribute : (name value : List ℕ) → List ℕ
attribute name value = codes " " ++ name ++ codes "=\"" ++ value ++ codes "\""

-- two numbers, as attributes of these names
unfoldable pub pair : (x y : List ℕ) → ℕ → ℕ → List ℕ
pair x y a b = attribute x (decimal a) ++ attribute y (decimal b)

abbrev pub class_name : Class → List ℕ
class_name Process = codes "process"
class_name Past = codes "past"
class_name Next = codes "next"
class_name Message = codes "message"
class_name Flight = codes "flight"
class_name Beyond = codes "beyond"
class_name Cut = codes "cut"
class_name Number = codes "number"
class_name Step = codes "step"
class_name Value = codes "value"
class_name Name = codes "name"
class_name Note = codes "note"

abbrev pub anchor_word : Anchor → List ℕ
anchor_word anchor.Start = codes "start"
anchor_word anchor.Middle = codes "middle"
anchor_word anchor.End = codes "end"

-- ---- shapes

-- the beginning of an element of this tag and class
unfoldable pub opened : (tag : List ℕ) → Class → List ℕ
opened tag class = codes "<" ++ tag ++ attribute (codes "class") (class_name class)

unfoldable pub ends_text : (from to : Point) → List ℕ
ends_text from to = pair (codes "x1") (codes "y1") from.x from.y ++ pair (codes "x2") (codes "y2") to.x to.y

abbrev pub point_text : Point → List ℕ
point_text point = codes " " ++ decimal point.x ++ codes "," ++ decimal point.y

-- the element of a shape, and an LF
abbrev pub shape_text : Shape → List ℕ
shape_text (Line class from to) = opened (codes "line") class ++ ends_text from to ++ codes "/>\n"
shape_text (Arrow class from to) =
    opened (codes "line") class ++ ends_text from to ++ attribute (codes "marker-end") (codes "url(#head)")
    ++ codes "/>\n"
shape_text (Circle class centre radius) =
    opened (codes "circle") class ++ pair (codes "cx") (codes "cy") centre.x centre.y
    ++ attribute (codes "r") (decimal radius) ++ codes "/>\n"
shape_text (Polyline class points) =
    opened (codes "polyline") class ++ attribute (codes "points") (flat_map point_text points.items) ++ codes "/>\n"
shape_text (Text class at anchor size text) =
    opened (codes "text") class ++ pair (codes "x") (codes "y") at.x at.y
    ++ attribute (codes "text-anchor") (anchor_word anchor) ++ attribute (codes "font-size") (decimal size)
    ++ codes ">" ++ escape (string_bytes text) ++ codes "</text>\n"

-- ---- the whole

-- the tag that opens a picture of this size
unfoldable pub root_text : (width height : ℕ) → List ℕ
root_text width height =
    codes "<svg xmlns=\"http://www.w3.org/2000/svg\"" ++ pair (codes "width") (codes "height") width height
    ++ attribute (codes "viewBox") (codes "0 0 " ++ decimal width ++ codes " " ++ decimal height)
    ++ codes " role=\"img\" aria-labelledby=\"title description\">\n"

-- an element of this tag and id that holds a text
abbrev pub labelled : (tag id text : List ℕ) → List ℕ
labelled tag id text =
    codes "<" ++ tag ++ attribute (codes "id") id ++ codes ">" ++ escape text ++ codes "</" ++ tag ++ codes ">\n"

-- how each class is drawn, and the head of arrows: the same in all pictures
unfoldable pub style_text : List ℕ
style_text = STYLE.now

unfoldable pub drawing_text : Drawing → List ℕ
drawing_text drawing =
    root_text drawing.width drawing.height ++ labelled (codes "title") (codes "title") (string_bytes drawing.title)
    ++ labelled (codes "desc") (codes "description") (string_bytes drawing.description) ++ style_text
    ++ (codes "<rect class=\"page\"" ++ pair (codes "width") (codes "height") drawing.width drawing.height
    ++ codes "/>\n") ++ flat_map shape_text drawing.shapes.items ++ codes "</svg>\n"
