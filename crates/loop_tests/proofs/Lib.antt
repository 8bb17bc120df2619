pub mod AuditLemmas
