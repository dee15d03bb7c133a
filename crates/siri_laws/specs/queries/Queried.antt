-- What a query asks of a request: all but who asks, when, and by which name (EN 15531-2).
use Rattle.std.specs.Prelude.{None}
use Rattle.siri_messages.specs.declared.requests.ServiceRequest.{ServiceRequest}

abbrev pub queried : ServiceRequest → ServiceRequest
queried r = record r { request_timestamp = None; requestor_ref = None; message_identifier = None }
