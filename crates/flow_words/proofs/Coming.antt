-- What came, in parts.
use Rattle.std.proofs.Common.{◌≡◌, ◌+◌, List, [], ◌++◌, length, refl, sym, ap, ◌∙◌, arith, append_assoc, append-nil, length-append}
use Rattle.flow_messages.specs.declared.message.Msg.{Msg}
use Rattle.flow_messages.specs.Stores.{content_of}
use Rattle.flow_boxes.specs.declared.inbox.Inbox.{Inbox}
use Rattle.flow_boxes.specs.Coming.{HasCome}

pub come_none : (a : Inbox) → HasCome [] a a
come_none a = record { arrived = sym (append-nil a.arrived.items); held = sym (append-nil (content_of a.store)); received = refl; capacity = refl; kind = refl }

pub come_as : (ms ns : List Msg) (a b : Inbox) → ms ≡ ns → HasCome ms a b → HasCome ns a b
come_as ms ns a b is p = record {
  arrived = p.arrived ∙ ap (λ l. a.arrived.items ++ l) is;
  held = p.held ∙ ap (λ l. content_of a.store ++ l) is;
  received = p.received;
  capacity = p.capacity;
  kind = p.kind;
}

pub come_more : (ms ns : List Msg) (a b c : Inbox) → HasCome ms a b → HasCome ns b c → HasCome (ms ++ ns) a c
come_more ms ns a b c p q = record {
  arrived = q.arrived ∙ ap (λ l. l ++ ns) p.arrived ∙ append_assoc a.arrived.items ms ns;
  held = q.held ∙ ap (λ l. l ++ ns) p.held ∙ append_assoc (content_of a.store) ms ns;
  received = q.received ∙ p.received;
  capacity = q.capacity ∙ p.capacity;
  kind = q.kind ∙ p.kind;
}

-- how many are held
pub come_length : (ms : List Msg) (a b : Inbox) → HasCome ms a b → length (content_of b.store) ≡ length (content_of a.store) + length ms
come_length ms a b p = ap length p.held ∙ length-append (content_of a.store) ms

-- where none is held none came
pub none_came : (ms : List Msg) (a b : Inbox) → HasCome ms a b → content_of b.store ≡ [] → length ms ≡ 0
none_came ms a b p none = let many = come_length ms a b p in let no = ap length none in omega (arith, many, no)
