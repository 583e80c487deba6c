-- Document 01, "The text": the names of modifiers and event types, and what a name of any kind is. "Names are case-sensitive."
use Rattle.std.specs.Prelude.{ℕ, Bool, cond, List, [], ◌∷◌, ◌++◌}
use Prim.Native.String.{String}
use Rattle.model.specs.Lists.{bytes, same}
use Rattle.model.specs.Numbers.{no_refusal, unknown_name}
use Rattle.model.specs.declared.events.Detail.{Detail}
use Rattle.model.specs.declared.names.Added.{Added}
use Rattle.model.specs.declared.names.TypeName.{TypeName}
use Rattle.model.specs.declared.names.ModifierName.{ModifierName}
use Rattle.model.specs.declared.names.DetailRead.{DetailRead}

-- a name and what it stands for
pub record Entry (A : Type 0) : Type 0 where
  pub name : String
  pub meaning : A

module _ {A : Type 0} where
  -- what the first entry of this name stands for, or `other`
  abbrev pub first_meaning : List (Entry A) → A → List ℕ → A
  first_meaning [] other word = other
  first_meaning (e ∷ es) other word = cond (same word (bytes e.name)) e.meaning (first_meaning es other word)

  -- the name of the first entry whose meaning passes the test, or `other`
  abbrev pub name_of : (A → Bool) → List ℕ → List (Entry A) → List ℕ
  name_of test other [] = other
  name_of test other (e ∷ es) = cond (test e.meaning) (bytes e.name) (name_of test other es)

  -- the names of all entries whose meaning passes the test
  unfoldable pub names_with : (A → Bool) → List (Entry A) → List (List ℕ)
  names_with test [] = []
  names_with test (e ∷ es) = let rest = names_with test es in cond (test e.meaning) (bytes e.name ∷ rest) rest

-- a detail's name and its value
abbrev pub value : String → ℕ → Entry DetailRead
value n v = record { name = n; meaning = DetailRead.Value v }

-- ---- Modifiers

-- "Bits 0..12: Shift, Lock, Ctrl, Mod1..Mod5, Button1..Button5."
abbrev pub shift_bit : ℕ
shift_bit = 0

abbrev pub lock_bit : ℕ
lock_bit = 1

abbrev pub ctrl_bit : ℕ
ctrl_bit = 2

-- bit 7 + n is button n
abbrev pub first_button_bit : ℕ
first_button_bit = 8

abbrev pub last_button_bit : ℕ
last_button_bit = 12

-- R-1: "Meta, Alt, Hyper, Super", in this order, numbered from 0
abbrev pub meta_name : ℕ
meta_name = 0

abbrev pub alt_name : ℕ
alt_name = 1

abbrev pub hyper_name : ℕ
hyper_name = 2

abbrev pub super_name : ℕ
super_name = 3

-- "unknown modifier"
abbrev pub modifier_number : ModifierName → ℕ
modifier_number (ModifierName.Bit k) = no_refusal
modifier_number (ModifierName.Named n) = no_refusal
modifier_number ModifierName.Unknown = unknown_name

abbrev pub modifier : String → ModifierName → Entry ModifierName
modifier n m = record { name = n; meaning = m }

-- "Modifiers: Ctrl c, Shift s, Lock l, Mod1..Mod5, Button1..Button5."
unfoldable pub modifier_entries : List (Entry ModifierName)
modifier_entries =
    modifier "Ctrl" (ModifierName.Bit ctrl_bit)
    ∷ modifier "c" (ModifierName.Bit ctrl_bit)
    ∷ modifier "Shift" (ModifierName.Bit shift_bit)
    ∷ modifier "s" (ModifierName.Bit shift_bit)
    ∷ modifier "Lock" (ModifierName.Bit lock_bit)
    ∷ modifier "l" (ModifierName.Bit lock_bit)
    ∷ modifier "Mod1" (ModifierName.Bit 3)
    ∷ modifier "Mod2" (ModifierName.Bit 4)
    ∷ modifier "Mod3" (ModifierName.Bit 5)
    ∷ modifier "Mod4" (ModifierName.Bit 6)
    ∷ modifier "Mod5" (ModifierName.Bit 7)
    ∷ modifier "Button1" (ModifierName.Bit 8)
    ∷ modifier "Button2" (ModifierName.Bit 9)
    ∷ modifier "Button3" (ModifierName.Bit 10)
    ∷ modifier "Button4" (ModifierName.Bit 11)
    ∷ modifier "Button5" (ModifierName.Bit 12)
    -- R-1: "Meta, Alt, Hyper, Super, their short forms", which are Appendix B's
    ∷ modifier "Meta" (ModifierName.Named meta_name)
    ∷ modifier "m" (ModifierName.Named meta_name)
    ∷ modifier "Hyper" (ModifierName.Named hyper_name)
    ∷ modifier "h" (ModifierName.Named hyper_name)
    ∷ modifier "Super" (ModifierName.Named super_name)
    ∷ modifier "su" (ModifierName.Named super_name)
    ∷ modifier "Alt" (ModifierName.Named alt_name)
    ∷ modifier "a" (ModifierName.Named alt_name)
    ∷ []

unfoldable pub modifier_named : List ℕ → ModifierName
modifier_named word = first_meaning modifier_entries ModifierName.Unknown word

-- ---- Event types

abbrev pub event_type : String → ℕ → Added → Detail → Entry TypeName
event_type n code added detail =
    record { name = n; meaning = TypeName.Known (record { code = code; added = added; detail = detail }) }

-- a name that stands for a code and nothing else
abbrev pub plain : String → ℕ → Entry TypeName
plain n code = event_type n code Added.Nothing Detail.Unspecified

-- the protocol's names, in the order of their codes, 2..34; Appendix B spells 13 and 14
unfoldable pub protocol_entries : List (Entry TypeName)
protocol_entries =
    plain "KeyPress" 2
    ∷ plain "KeyRelease" 3
    ∷ plain "ButtonPress" 4
    ∷ plain "ButtonRelease" 5
    ∷ plain "MotionNotify" 6
    ∷ plain "EnterNotify" 7
    ∷ plain "LeaveNotify" 8
    ∷ plain "FocusIn" 9
    ∷ plain "FocusOut" 10
    ∷ plain "KeymapNotify" 11
    ∷ plain "Expose" 12
    ∷ plain "GraphicsExpose" 13
    ∷ plain "NoExpose" 14
    ∷ plain "VisibilityNotify" 15
    ∷ plain "CreateNotify" 16
    ∷ plain "DestroyNotify" 17
    ∷ plain "UnmapNotify" 18
    ∷ plain "MapNotify" 19
    ∷ plain "MapRequest" 20
    ∷ plain "ReparentNotify" 21
    ∷ plain "ConfigureNotify" 22
    ∷ plain "ConfigureRequest" 23
    ∷ plain "GravityNotify" 24
    ∷ plain "ResizeRequest" 25
    ∷ plain "CirculateNotify" 26
    ∷ plain "CirculateRequest" 27
    ∷ plain "PropertyNotify" 28
    ∷ plain "SelectionClear" 29
    ∷ plain "SelectionRequest" 30
    ∷ plain "SelectionNotify" 31
    ∷ plain "ColormapNotify" 32
    ∷ plain "ClientMessage" 33
    ∷ plain "MappingNotify" 34
    ∷ []

-- Appendix B, "the following event type synonyms are defined"
unfoldable pub synonym_entries : List (Entry TypeName)
synonym_entries =
    plain "Key" 2
    ∷ plain "KeyDown" 2
    ∷ plain "KeyUp" 3
    ∷ plain "BtnDown" 4
    ∷ plain "BtnUp" 5
    ∷ plain "Motion" 6
    ∷ plain "PtrMoved" 6
    ∷ plain "MouseMoved" 6
    ∷ plain "Enter" 7
    ∷ plain "EnterWindow" 7
    ∷ plain "Leave" 8
    ∷ plain "LeaveWindow" 8
    ∷ plain "Keymap" 11
    ∷ plain "GrExp" 13
    ∷ plain "NoExp" 14
    ∷ plain "Visible" 15
    ∷ plain "Create" 16
    ∷ plain "Destroy" 17
    ∷ plain "Unmap" 18
    ∷ plain "Map" 19
    ∷ plain "MapReq" 20
    ∷ plain "Reparent" 21
    ∷ plain "Configure" 22
    ∷ plain "ConfigureReq" 23
    ∷ plain "Grav" 24
    ∷ plain "ResReq" 25
    ∷ plain "Circ" 26
    ∷ plain "CircReq" 27
    ∷ plain "Prop" 28
    ∷ plain "SelClr" 29
    ∷ plain "SelReq" 30
    ∷ plain "Select" 31
    ∷ plain "Clrmap" 32
    ∷ plain "Message" 33
    ∷ plain "Mapping" 34
    ∷ []

-- Appendix B, "The supported abbreviations are"; 01: "`<Ctrl>` and `<Shift>` add that modifier to KeyPress; `<Btn1Motion>`
-- adds Button1; `<BtnMotion>` asks for at least one button; `<Btn1Down>` fixes the detail"; R-1: "`<Meta>` .. read as Meta listed"
unfoldable pub abbreviation_entries : List (Entry TypeName)
abbreviation_entries =
    event_type "Ctrl" 2 (Added.Modifier ctrl_bit) Detail.Unspecified
    ∷ event_type "Meta" 2 Added.Meta Detail.Unspecified
    ∷ event_type "Shift" 2 (Added.Modifier shift_bit) Detail.Unspecified
    ∷ event_type "Btn1Down" 4 Added.Nothing (Detail.Value 1)
    ∷ event_type "Btn1Up" 5 Added.Nothing (Detail.Value 1)
    ∷ event_type "Btn2Down" 4 Added.Nothing (Detail.Value 2)
    ∷ event_type "Btn2Up" 5 Added.Nothing (Detail.Value 2)
    ∷ event_type "Btn3Down" 4 Added.Nothing (Detail.Value 3)
    ∷ event_type "Btn3Up" 5 Added.Nothing (Detail.Value 3)
    ∷ event_type "Btn4Down" 4 Added.Nothing (Detail.Value 4)
    ∷ event_type "Btn4Up" 5 Added.Nothing (Detail.Value 4)
    ∷ event_type "Btn5Down" 4 Added.Nothing (Detail.Value 5)
    ∷ event_type "Btn5Up" 5 Added.Nothing (Detail.Value 5)
    ∷ event_type "BtnMotion" 6 Added.AnyButton Detail.Unspecified
    ∷ event_type "Btn1Motion" 6 (Added.Modifier 8) Detail.Unspecified
    ∷ event_type "Btn2Motion" 6 (Added.Modifier 9) Detail.Unspecified
    ∷ event_type "Btn3Motion" 6 (Added.Modifier 10) Detail.Unspecified
    ∷ event_type "Btn4Motion" 6 (Added.Modifier 11) Detail.Unspecified
    ∷ event_type "Btn5Motion" 6 (Added.Modifier 12) Detail.Unspecified
    ∷ []

-- "Event types: protocol names and 001's synonyms and abbreviations, spelled as there, with MappingNotify."
unfoldable pub type_entries : List (Entry TypeName)
type_entries = protocol_entries ++ (synonym_entries ++ abbreviation_entries)

unfoldable pub type_named : List ℕ → TypeName
type_named word = first_meaning type_entries TypeName.Unknown word
